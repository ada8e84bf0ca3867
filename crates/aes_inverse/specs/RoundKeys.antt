-- FIPS 197, 5.3.5: the round keys of the equivalent inverse cipher. INVMIXCOLUMNS is additive, so that it may come before ADDROUNDKEY where the round key
-- has gone through it too.
-- Assumes nothing.
use Rattle.std.specs.Prelude.{ℕ, ◌≤◌, ◌<◌, List, get_or}
use Rattle.octets.specs.Words.{HasBytes, b0, b1, b2, b3}
use Rattle.aes_spec.specs.Field.{mul}
use Rattle.aes_spec.specs.Cipher.{xor4}

-- The word r is the column of the bytes a, b, c and d under INVMIXCOLUMNS.
abbrev pub UnmixedBytes : (r a b c d : ℕ) → Type 0
UnmixedBytes r a b c d = HasBytes r
    (xor4 (mul 0x0e a) (mul 0x0b b) (mul 0x0d c) (mul 0x09 d))
    (xor4 (mul 0x09 a) (mul 0x0e b) (mul 0x0b c) (mul 0x0d d))
    (xor4 (mul 0x0d a) (mul 0x09 b) (mul 0x0e c) (mul 0x0b d))
    (xor4 (mul 0x0b a) (mul 0x0d b) (mul 0x09 c) (mul 0x0e d))

-- The word v is the word w, a column, under INVMIXCOLUMNS.
abbrev pub Unmixed : ℕ → ℕ → Type 0
Unmixed v w = UnmixedBytes v (b0 w) (b1 w) (b2 w) (b3 w)

-- The words of v at the places from 4 on and before n, those of the rounds from 1 on, are those of the key schedule w under INVMIXCOLUMNS.
pub record UnmixedKeys (w v : List ℕ) (n : ℕ) : Type 0 where
  pub at : (i : ℕ) → 4 ≤ i → i < n → Unmixed (get_or v i 0) (get_or w i 0)
