-- The examples of SP 800-38B for AES-128 and two for AES-256, and the vectors A.1 and A.2 of RFC 5297 (keys of 128 bits), worked out
-- from the definitions.
-- Assumes nothing.
use mathlib.Core.List.{[], ◌∷◌, ◌++◌}
use mathlib.Core.Path.{◌≡◌, refl}
use Rattle.octets.specs.BigEndian.{int_from, int, be}
use Rattle.octets.specs.Words.{words, word_bytes}
use Rattle.octets.specs.Xors.{xors}
use Rattle.aes_spec.specs.Field as f
use Rattle.aes_spec.specs.SBox.{sbox}
use Rattle.aes_spec.specs.KeyExpansion.{sub_word, rot_word, power_of_x, rcon, temp, expansion, key_expansion}
use Rattle.aes_spec.specs.Cipher.{sub_bytes, shift_rows, mix_columns, add_round_key, after_rounds, cipher, aes}
use Rattle.ctr.specs.Ctr.{inc128, keystream, ctr}
use Rattle.siv.specs.Cmac.{dbl, pad, subkey1, subkey2, chain, last_block, cmac_from, cmac}
use Rattle.siv.specs.Siv.{xorend, s2v_last, s2v_from, s2v, counter_of, crypt, seal}

cmac_128_of_0 : cmac (aes 4 (be 16 0x2b7e151628aed2a6abf7158809cf4f3c)) [] ≡ be 16 0xbb1d6929e95937287fa37d129b756746
unfolding f.xtimes f.mul_bits f.mul sbox words word_bytes sub_word rot_word power_of_x rcon temp expansion key_expansion xors sub_bytes shift_rows mix_columns add_round_key after_rounds cipher aes int_from int be dbl pad subkey1 subkey2 chain last_block cmac_from cmac
cmac_128_of_0 = refl

cmac_128_of_16 : cmac (aes 4 (be 16 0x2b7e151628aed2a6abf7158809cf4f3c)) (be 16 0x6bc1bee22e409f96e93d7e117393172a) ≡ be 16 0x070a16b46b4d4144f79bdd9dd04a287c
unfolding f.xtimes f.mul_bits f.mul sbox words word_bytes sub_word rot_word power_of_x rcon temp expansion key_expansion xors sub_bytes shift_rows mix_columns add_round_key after_rounds cipher aes int_from int be dbl pad subkey1 subkey2 chain last_block cmac_from cmac
cmac_128_of_16 = refl

cmac_128_of_40 : cmac (aes 4 (be 16 0x2b7e151628aed2a6abf7158809cf4f3c)) (be 40 0x6bc1bee22e409f96e93d7e117393172aae2d8a571e03ac9c9eb76fac45af8e5130c81c46a35ce411) ≡ be 16 0xdfa66747de9ae63030ca32611497c827
unfolding f.xtimes f.mul_bits f.mul sbox words word_bytes sub_word rot_word power_of_x rcon temp expansion key_expansion xors sub_bytes shift_rows mix_columns add_round_key after_rounds cipher aes int_from int be dbl pad subkey1 subkey2 chain last_block cmac_from cmac
cmac_128_of_40 = refl

cmac_128_of_64 : cmac (aes 4 (be 16 0x2b7e151628aed2a6abf7158809cf4f3c)) (be 64 0x6bc1bee22e409f96e93d7e117393172aae2d8a571e03ac9c9eb76fac45af8e5130c81c46a35ce411e5fbc1191a0a52eff69f2445df4f9b17ad2b417be66c3710) ≡ be 16 0x51f0bebf7e3b9d92fc49741779363cfe
unfolding f.xtimes f.mul_bits f.mul sbox words word_bytes sub_word rot_word power_of_x rcon temp expansion key_expansion xors sub_bytes shift_rows mix_columns add_round_key after_rounds cipher aes int_from int be dbl pad subkey1 subkey2 chain last_block cmac_from cmac
cmac_128_of_64 = refl

cmac_256_of_0 : cmac (aes 8 (be 32 0x603deb1015ca71be2b73aef0857d77811f352c073b6108d72d9810a30914dff4)) [] ≡ be 16 0x028962f61b7bf89efc6b551f4667d983
unfolding f.xtimes f.mul_bits f.mul sbox words word_bytes sub_word rot_word power_of_x rcon temp expansion key_expansion xors sub_bytes shift_rows mix_columns add_round_key after_rounds cipher aes int_from int be dbl pad subkey1 subkey2 chain last_block cmac_from cmac
cmac_256_of_0 = refl

cmac_256_of_40 : cmac (aes 8 (be 32 0x603deb1015ca71be2b73aef0857d77811f352c073b6108d72d9810a30914dff4)) (be 40 0x6bc1bee22e409f96e93d7e117393172aae2d8a571e03ac9c9eb76fac45af8e5130c81c46a35ce411) ≡ be 16 0xaaf3d8f1de5640c232f5b169b9c911e6
unfolding f.xtimes f.mul_bits f.mul sbox words word_bytes sub_word rot_word power_of_x rcon temp expansion key_expansion xors sub_bytes shift_rows mix_columns add_round_key after_rounds cipher aes int_from int be dbl pad subkey1 subkey2 chain last_block cmac_from cmac
cmac_256_of_40 = refl

rfc_5297_a1 : seal (aes 4 (be 16 0xfffefdfcfbfaf9f8f7f6f5f4f3f2f1f0)) (aes 4 (be 16 0xf0f1f2f3f4f5f6f7f8f9fafbfcfdfeff))
    ((be 24 0x101112131415161718191a1b1c1d1e1f2021222324252627) ∷ [])
    (be 14 0x112233445566778899aabbccddee)
    ≡ be 16 0x85632d07c6e8f37f950acd320a2ecc93 ++ be 14 0x40c02b9690c4dc04daef7f6afe5c
unfolding f.xtimes f.mul_bits f.mul sbox words word_bytes sub_word rot_word power_of_x rcon temp expansion key_expansion xors sub_bytes shift_rows mix_columns add_round_key after_rounds cipher aes int_from int be dbl pad subkey1 subkey2 chain last_block cmac_from cmac xorend s2v_last s2v_from s2v counter_of inc128 keystream ctr crypt seal
rfc_5297_a1 = refl

rfc_5297_a2 : seal (aes 4 (be 16 0x7f7e7d7c7b7a79787776757473727170)) (aes 4 (be 16 0x404142434445464748494a4b4c4d4e4f))
    ((be 40 0x00112233445566778899aabbccddeeffdeaddadadeaddadaffeeddccbbaa99887766554433221100) ∷ (be 10 0x102030405060708090a0) ∷ (be 16 0x09f911029d74e35bd84156c5635688c0) ∷ [])
    (be 47 0x7468697320697320736f6d6520706c61696e7465787420746f20656e6372797074207573696e67205349562d414553)
    ≡ be 16 0x7bdb6e3b432667eb06f4d14bff2fbd0f ++ be 47 0xcb900f2fddbe404326601965c889bf17dba77ceb094fa663b7a3f748ba8af829ea64ad544a272e9c485b62a3fd5c0d
unfolding f.xtimes f.mul_bits f.mul sbox words word_bytes sub_word rot_word power_of_x rcon temp expansion key_expansion xors sub_bytes shift_rows mix_columns add_round_key after_rounds cipher aes int_from int be dbl pad subkey1 subkey2 chain last_block cmac_from cmac xorend s2v_last s2v_from s2v counter_of inc128 keystream ctr crypt seal
rfc_5297_a2 = refl
