-- The example vectors of FIPS 197, worked out from the definitions: the ciphers of appendix C of the edition of 2001, and the
-- last round keys of appendix A.
-- Assumes nothing.
use Prim.Native.Nat.{ℕ, zero, suc}
use mathlib.Core.List.{List, [], ◌∷◌}
use mathlib.Core.Path.{◌≡◌, refl}
use lib.ListN.{drop}
use Rattle.octets.specs.BigEndian.{be}
use Rattle.octets.specs.Words.{words, word_bytes}
use Rattle.octets.specs.Xors.{xors}
use Rattle.aes_spec.specs.Field.{xtimes, mul_bits, mul}
use Rattle.aes_spec.specs.SBox.{sbox}
use Rattle.aes_spec.specs.KeyExpansion.{sub_word, rot_word, power_of_x, rcon, temp, expansion, key_expansion}
use Rattle.aes_spec.specs.Cipher.{sub_bytes, shift_rows, mix_columns, add_round_key, after_rounds, cipher, aes}

-- The bytes 00, 01, .. of a key, and the bytes 00, 11, .. ff of a block.
abbrev pub key : ℕ → List ℕ
key n = upto n 0
  where
    upto : ℕ → ℕ → List ℕ
    upto zero i = []
    upto (suc n) i = i ∷ upto n (suc i)

cipher_128 : aes 4 (key 16) (be 16 0x00112233445566778899aabbccddeeff) ≡ be 16 0x69c4e0d86a7b0430d8cdb78070b4c55a
unfolding be xtimes mul_bits mul sbox words word_bytes sub_word rot_word power_of_x rcon temp expansion key_expansion xors sub_bytes shift_rows mix_columns add_round_key after_rounds cipher aes
cipher_128 = refl

cipher_192 : aes 6 (key 24) (be 16 0x00112233445566778899aabbccddeeff) ≡ be 16 0xdda97ca4864cdfe06eaf70a0ec0d7191
unfolding be xtimes mul_bits mul sbox words word_bytes sub_word rot_word power_of_x rcon temp expansion key_expansion xors sub_bytes shift_rows mix_columns add_round_key after_rounds cipher aes
cipher_192 = refl

cipher_256 : aes 8 (key 32) (be 16 0x00112233445566778899aabbccddeeff) ≡ be 16 0x8ea2b7ca516745bfeafc49904b496089
unfolding be xtimes mul_bits mul sbox words word_bytes sub_word rot_word power_of_x rcon temp expansion key_expansion xors sub_bytes shift_rows mix_columns add_round_key after_rounds cipher aes
cipher_256 = refl

-- Appendix A.1: w40 to w43; A.3: w56 to w59.
schedule_128 : drop 40 (key_expansion 4 (be 16 0x2b7e151628aed2a6abf7158809cf4f3c))
    ≡ 0xd014f9a8 ∷ 0xc9ee2589 ∷ 0xe13f0cc8 ∷ 0xb6630ca6 ∷ []
unfolding be xtimes sbox words sub_word rot_word power_of_x rcon temp expansion key_expansion
schedule_128 = refl

schedule_256 : drop 56 (key_expansion 8 (be 32 0x603deb1015ca71be2b73aef0857d77811f352c073b6108d72d9810a30914dff4))
    ≡ 0xfe4890d1 ∷ 0xe6188d0b ∷ 0x046df344 ∷ 0x706c631e ∷ []
unfolding be xtimes sbox words sub_word rot_word power_of_x rcon temp expansion key_expansion
schedule_256 = refl
