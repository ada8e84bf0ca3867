-- The example vectors of FIPS 197 for the inverse cipher, appendix C of the edition of 2001, worked out from the definitions.
-- Assumes nothing.
use mathlib.Core.Path.{◌≡◌, refl}
use Rattle.octets.specs.BigEndian.{be}
use Rattle.octets.specs.Words.{words, word_bytes}
use Rattle.octets.specs.Xors.{xors}
use Rattle.aes_spec.specs.Field.{xtimes, mul_bits, mul}
use Rattle.aes_spec.specs.SBox.{sbox}
use Rattle.aes_spec.specs.KeyExpansion.{sub_word, rot_word, power_of_x, rcon, temp, expansion, key_expansion}
use Rattle.aes_spec.specs.Cipher.{add_round_key}
use Rattle.aes_spec.proofs.Vectors.{key}
use Rattle.aes_inverse.specs.InverseSBox.{inverse_sbox}
use Rattle.aes_inverse.specs.InverseCipher.{inv_shift_rows, inv_sub_bytes, inv_mix_columns, back_rounds, inv_cipher, inverse_aes}

inverse_128 : inverse_aes 4 (key 16) (be 16 0x69c4e0d86a7b0430d8cdb78070b4c55a) ≡ be 16 0x00112233445566778899aabbccddeeff
unfolding be xtimes mul_bits mul sbox inverse_sbox words word_bytes sub_word rot_word power_of_x rcon temp expansion key_expansion xors inv_sub_bytes inv_shift_rows inv_mix_columns add_round_key back_rounds inv_cipher inverse_aes
inverse_128 = refl

inverse_192 : inverse_aes 6 (key 24) (be 16 0xdda97ca4864cdfe06eaf70a0ec0d7191) ≡ be 16 0x00112233445566778899aabbccddeeff
unfolding be xtimes mul_bits mul sbox inverse_sbox words word_bytes sub_word rot_word power_of_x rcon temp expansion key_expansion xors inv_sub_bytes inv_shift_rows inv_mix_columns add_round_key back_rounds inv_cipher inverse_aes
inverse_192 = refl

inverse_256 : inverse_aes 8 (key 32) (be 16 0x8ea2b7ca516745bfeafc49904b496089) ≡ be 16 0x00112233445566778899aabbccddeeff
unfolding be xtimes mul_bits mul sbox inverse_sbox words word_bytes sub_word rot_word power_of_x rcon temp expansion key_expansion xors inv_sub_bytes inv_shift_rows inv_mix_columns add_round_key back_rounds inv_cipher inverse_aes
inverse_256 = refl
