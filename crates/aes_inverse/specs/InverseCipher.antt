-- FIPS 197, section 5.3: the inverse cipher. States and blocks are as in 3.4 and 5.1, keys and the key schedule as in 5.2 (`aes_spec`). Algorithms and
-- tables have the numbers of the edition of 2023. To add is exclusive or.
-- Assumes nothing.
use Rattle.std.specs.Prelude.{ℕ, zero, suc, ◌+◌, ◌-◌, ◌*◌, ◌%◌, List, [], ◌∷◌, map, get_or}
use Rattle.aes_spec.specs.Field.{mul}
use Rattle.aes_spec.specs.KeyExpansion.{rounds, key_expansion}
use Rattle.aes_spec.specs.Cipher.{xor4, add_round_key}
use Rattle.aes_inverse.specs.InverseSBox.{inverse_sbox}

-- 5.3.1, INVSHIFTROWS: the byte at row r and column c comes from row r and column (c - r) mod 4.
abbrev pub shifted_back : List ℕ → ℕ → ℕ → ℕ
shifted_back s r c = get_or s (r + 4 * ((c + 4 - r) % 4)) 0

unfoldable pub inv_shift_rows : List ℕ → List ℕ
inv_shift_rows s =
    shifted_back s 0 0 ∷ shifted_back s 1 0 ∷ shifted_back s 2 0 ∷ shifted_back s 3 0
    ∷ shifted_back s 0 1 ∷ shifted_back s 1 1 ∷ shifted_back s 2 1 ∷ shifted_back s 3 1
    ∷ shifted_back s 0 2 ∷ shifted_back s 1 2 ∷ shifted_back s 2 2 ∷ shifted_back s 3 2
    ∷ shifted_back s 0 3 ∷ shifted_back s 1 3 ∷ shifted_back s 2 3 ∷ shifted_back s 3 3 ∷ []

-- 5.3.2, INVSUBBYTES: the inverse S-box applied to each byte.
unfoldable pub inv_sub_bytes : List ℕ → List ℕ
inv_sub_bytes s = map inverse_sbox s

-- 5.3.3, INVMIXCOLUMNS, column by column.
unfoldable pub inv_mix_columns : List ℕ → List ℕ
inv_mix_columns [] = []
inv_mix_columns (a ∷ []) = []
inv_mix_columns (a ∷ b ∷ []) = []
inv_mix_columns (a ∷ b ∷ c ∷ []) = []
inv_mix_columns (a ∷ b ∷ c ∷ d ∷ s) =
    xor4 (mul 0x0e a) (mul 0x0b b) (mul 0x0d c) (mul 0x09 d)
    ∷ xor4 (mul 0x09 a) (mul 0x0e b) (mul 0x0b c) (mul 0x0d d)
    ∷ xor4 (mul 0x0d a) (mul 0x09 b) (mul 0x0e c) (mul 0x0b d)
    ∷ xor4 (mul 0x0b a) (mul 0x0d b) (mul 0x09 c) (mul 0x0e d)
    ∷ inv_mix_columns s

-- Algorithm 3: the rounds n down to 1, on a state to which the last round key was added.
unfoldable pub back_rounds : List ℕ → List ℕ → ℕ → List ℕ
back_rounds w s zero = s
back_rounds w s (suc n) = back_rounds w (inv_mix_columns (add_round_key w (suc n) (inv_sub_bytes (inv_shift_rows s)))) n

-- Algorithm 3: INVCIPHER in nr rounds under the key schedule w, the last round without INVMIXCOLUMNS. 5.3.4: ADDROUNDKEY is its own inverse.
unfoldable pub inv_cipher : ℕ → List ℕ → List ℕ → List ℕ
inv_cipher nr w s = add_round_key w 0 (inv_sub_bytes (inv_shift_rows (back_rounds w (add_round_key w nr s) (nr - 1))))

-- 5.3: the inverse of AES under a key of nk words.
unfoldable pub inverse_aes : ℕ → List ℕ → List ℕ → List ℕ
inverse_aes nk key = inv_cipher (rounds nk) (key_expansion nk key)
