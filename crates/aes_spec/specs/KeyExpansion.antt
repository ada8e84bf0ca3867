-- FIPS 197, section 5.2: the key expansion. A key has nk words, 4, 6 or 8, and so 4 nk bytes.
-- A word is a number below 2^32, its first byte the highest. To add is exclusive or.
-- Assumes nothing.
use Rattle.std.specs.Prelude.{ℕ, zero, suc, ◌+◌, ◌-◌, ◌*◌, ◌/◌, ◌%◌, List, [], ◌∷◌, ◌++◌, ◌&&◌, cond, get_or, eqb, ltb}
use Rattle.std.specs.Int.Bits.{bit_xor}
use Rattle.octets.specs.Words.{word, b0, b1, b2, b3, words}
use Rattle.aes_spec.specs.Field.{xtimes}
use Rattle.aes_spec.specs.SBox.{sbox}

-- 5.2, SUBWORD: the S-box applied to each byte.
unfoldable pub sub_word : ℕ → ℕ
sub_word w = word (sbox (b0 w)) (sbox (b1 w)) (sbox (b2 w)) (sbox (b3 w))

-- 5.2, ROTWORD: the first byte goes to the end.
unfoldable pub rot_word : ℕ → ℕ
rot_word w = word (b1 w) (b2 w) (b3 w) (b0 w)

-- x^i, by 4.2.
unfoldable pub power_of_x : ℕ → ℕ
power_of_x zero = 1
power_of_x (suc i) = xtimes (power_of_x i)

-- 5.2, table 5: Rcon[j] is the word of the bytes x^(j-1), 0, 0 and 0, for j from 1 on.
unfoldable pub rcon : ℕ → ℕ
rcon j = word (power_of_x (j - 1)) 0 0 0

-- Algorithm 2: temp as it is added to w[i - nk], where t is w[i - 1].
unfoldable pub temp : ℕ → ℕ → ℕ → ℕ
temp nk i t =
    cond (eqb (i % nk) 0) (bit_xor (sub_word (rot_word t)) (rcon (i / nk)))
    (cond (ltb 6 nk && eqb (i % nk) 4) (sub_word t) t)

-- Algorithm 2: the first nk + n words. The first nk are the key; w[i] is w[i - nk] plus temp.
unfoldable pub expansion : ℕ → List ℕ → ℕ → List ℕ
expansion nk key zero = words nk key
expansion nk key (suc n) =
    let w = expansion nk key n in
    w ++ (bit_xor (get_or w n 0) (temp nk (nk + n) (get_or w (nk + n - 1) 0)) ∷ [])

-- Table 3: the number of rounds.
abbrev pub rounds : ℕ → ℕ
rounds nk = nk + 6

-- KEYEXPANSION: four words for each of the round keys, one more than the rounds.
unfoldable pub key_expansion : ℕ → List ℕ → List ℕ
key_expansion nk key = expansion nk key (4 * (rounds nk + 1) - nk)
