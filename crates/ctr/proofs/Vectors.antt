-- The example F.5.5 of SP 800-38A (CTR-AES256, the whole block counts), and the step from all ones, worked out from the definitions.
-- Assumes nothing.
use Rattle.std.proofs.Common.{◌≡◌, ◌-◌, ◌^◌, refl}
use Rattle.octets.specs.BigEndian.{int_from, int, be}
use Rattle.octets.specs.Words.{words, word_bytes}
use Rattle.octets.specs.Xors.{xors}
use Rattle.aes_spec.specs.Field as f
use Rattle.aes_spec.specs.SBox.{sbox}
use Rattle.aes_spec.specs.KeyExpansion.{sub_word, rot_word, power_of_x, rcon, temp, expansion, key_expansion}
use Rattle.aes_spec.specs.Cipher.{sub_bytes, shift_rows, mix_columns, add_round_key, after_rounds, cipher, aes}
use Rattle.ctr.specs.Ctr.{inc128, keystream, ctr}

sp_800_38a_f55 : ctr inc128 (aes 8 (be 32 0x603deb1015ca71be2b73aef0857d77811f352c073b6108d72d9810a30914dff4)) (be 16 0xf0f1f2f3f4f5f6f7f8f9fafbfcfdfeff)
    (be 64 0x6bc1bee22e409f96e93d7e117393172aae2d8a571e03ac9c9eb76fac45af8e5130c81c46a35ce411e5fbc1191a0a52eff69f2445df4f9b17ad2b417be66c3710)
    ≡ be 64 0x601ec313775789a5b7a7f504bbf3d228f443e3ca4d62b59aca84e990cacaf5c52b0930daa23de94ce87017ba2d84988ddfc9c58db67aada613c2dd08457941a6
unfolding f.xtimes f.mul_bits f.mul sbox words word_bytes sub_word rot_word power_of_x rcon temp expansion key_expansion xors sub_bytes shift_rows mix_columns add_round_key after_rounds cipher aes int_from int be inc128 keystream ctr
sp_800_38a_f55 = refl

all_ones : inc128 (be 16 (2 ^ 128 - 1)) ≡ be 16 0
unfolding int_from int be inc128
all_ones = refl

-- The carry goes from the last word on into the one before it.
last_word : inc128 (be 16 0xb0b1b2b3b4b5b6b7b8b9babbffffffff) ≡ be 16 0xb0b1b2b3b4b5b6b7b8b9babc00000000
unfolding int_from int be inc128
last_word = refl
