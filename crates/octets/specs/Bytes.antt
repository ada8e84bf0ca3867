-- Byte strings: lists of numbers below 256.
-- Assumes nothing.
use Rattle.std.specs.Prelude.{ℕ, ◌+◌, ◌<◌, Bool, true, false, ◌&&◌, List, [], ◌∷◌, ◌++◌, eqb, length, take, drop, get_or}

-- Each number of s is below m; m is not 0, below which nothing is.
pub record Below (m : ℕ) (s : List ℕ) : Type 0 where
  pub at : (i : ℕ) → get_or s i 0 < m

abbrev pub Bytes : List ℕ → Type 0
Bytes s = Below 256 s

-- d with its first i places taken from s, the rest as it was; both have at least i places.
abbrev pub filled : List ℕ → ℕ → List ℕ → List ℕ
filled s i d = take i s ++ drop i d

-- d with s written from the place `at` on, the rest as it was; d is long enough.
abbrev pub placed : List ℕ → ℕ → List ℕ → List ℕ
placed s at d = take at d ++ s ++ drop (at + length s) d

-- The test that two byte strings are equal.
unfoldable pub same : List ℕ → List ℕ → Bool
same [] [] = true
same [] (b ∷ t) = false
same (a ∷ s) [] = false
same (a ∷ s) (b ∷ t) = eqb a b && same s t
