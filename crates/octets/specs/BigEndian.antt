-- Numbers as byte strings, the first byte the highest.
-- Assumes nothing.
use Rattle.std.specs.Prelude.{ℕ, zero, suc, ◌+◌, ◌*◌, ◌/◌, ◌%◌, List, [], ◌∷◌, ◌++◌}

-- x times 256^(length s), plus the number of s.
unfoldable pub int_from : ℕ → List ℕ → ℕ
int_from x [] = x
int_from x (a ∷ s) = int_from (x * 256 + a) s

-- The number that a byte string stands for.
unfoldable pub int : List ℕ → ℕ
int s = int_from 0 s

-- The n lowest bytes of a number.
unfoldable pub be : ℕ → ℕ → List ℕ
be zero x = []
be (suc n) x = be n (x / 256) ++ (x % 256 ∷ [])
