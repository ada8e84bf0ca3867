-- FIPS 197, section 5.1: the cipher. A state, a block and a key are byte strings; the byte r + 4 c of a state
-- stands in row r and column c (3.4). To add is exclusive or.
-- Assumes nothing.
use Rattle.std.specs.Prelude.{ℕ, zero, suc, ◌+◌, ◌-◌, ◌*◌, ◌%◌, List, [], ◌∷◌, map, get_or}
use Rattle.std.specs.Int.Bits.{bit_xor}
use Rattle.octets.specs.Words.{word_bytes}
use Rattle.octets.specs.Xors.{xors}
use Rattle.aes_spec.specs.Field.{mul}
use Rattle.aes_spec.specs.SBox.{sbox}
use Rattle.aes_spec.specs.KeyExpansion.{rounds, key_expansion}

-- 5.1.1, SUBBYTES: the S-box applied to each byte.
unfoldable pub sub_bytes : List ℕ → List ℕ
sub_bytes s = map sbox s

-- 5.1.2, SHIFTROWS: the byte at row r and column c comes from row r and column (c + r) mod 4.
abbrev pub shifted : List ℕ → ℕ → ℕ → ℕ
shifted s r c = get_or s (r + 4 * ((c + r) % 4)) 0

unfoldable pub shift_rows : List ℕ → List ℕ
shift_rows s =
    shifted s 0 0 ∷ shifted s 1 0 ∷ shifted s 2 0 ∷ shifted s 3 0
    ∷ shifted s 0 1 ∷ shifted s 1 1 ∷ shifted s 2 1 ∷ shifted s 3 1
    ∷ shifted s 0 2 ∷ shifted s 1 2 ∷ shifted s 2 2 ∷ shifted s 3 2
    ∷ shifted s 0 3 ∷ shifted s 1 3 ∷ shifted s 2 3 ∷ shifted s 3 3 ∷ []

abbrev pub xor4 : ℕ → ℕ → ℕ → ℕ → ℕ
xor4 a b c d = bit_xor (bit_xor (bit_xor a b) c) d

-- 5.1.3, MIXCOLUMNS, column by column.
unfoldable pub mix_columns : List ℕ → List ℕ
mix_columns [] = []
mix_columns (a ∷ []) = []
mix_columns (a ∷ b ∷ []) = []
mix_columns (a ∷ b ∷ c ∷ []) = []
mix_columns (a ∷ b ∷ c ∷ d ∷ s) =
    xor4 (mul 2 a) (mul 3 b) c d
    ∷ xor4 a (mul 2 b) (mul 3 c) d
    ∷ xor4 a b (mul 2 c) (mul 3 d)
    ∷ xor4 (mul 3 a) b c (mul 2 d)
    ∷ mix_columns s

-- 5.1.4, ADDROUNDKEY: the words 4 r to 4 r + 3 of the key schedule w are added, a word to a column.
unfoldable pub add_round_key : List ℕ → ℕ → List ℕ → List ℕ
add_round_key w r s = xors s (word_bytes (get_or w (4 * r) 0 ∷ get_or w (4 * r + 1) 0 ∷ get_or w (4 * r + 2) 0 ∷ get_or w (4 * r + 3) 0 ∷ []))

-- Algorithm 1: the rounds 1 to n, on a state to which the first round key was added.
unfoldable pub after_rounds : List ℕ → List ℕ → ℕ → List ℕ
after_rounds w s zero = s
after_rounds w s (suc n) = add_round_key w (suc n) (mix_columns (shift_rows (sub_bytes (after_rounds w s n))))

-- Algorithm 1: CIPHER in nr rounds under the key schedule w, the last round without MIXCOLUMNS.
unfoldable pub cipher : ℕ → List ℕ → List ℕ → List ℕ
cipher nr w s = add_round_key w nr (shift_rows (sub_bytes (after_rounds w (add_round_key w 0 s) (nr - 1))))

-- 5: AES under a key of nk words.
unfoldable pub aes : ℕ → List ℕ → List ℕ → List ℕ
aes nk key = cipher (rounds nk) (key_expansion nk key)
