-- Of the GCM submission to NIST: the product X1 of test case 2, and the test cases 13, 14 and 16 (AES-256), worked out from the
-- definitions. Case 16 has associated data and a last block that is not full.
-- Assumes nothing.
use Prim.Native.Nat.{ℕ}
use mathlib.Core.List.{List, [], ◌++◌}
use mathlib.Core.Path.{◌≡◌, refl}
use lib.ListN.{replicate}
use Rattle.octets.specs.BigEndian.{int_from, int, be}
use Rattle.octets.specs.Words.{words, word_bytes}
use Rattle.octets.specs.Xors.{xors}
use Rattle.aes_spec.specs.Field as f
use Rattle.aes_spec.specs.SBox.{sbox}
use Rattle.aes_spec.specs.KeyExpansion.{sub_word, rot_word, power_of_x, rcon, temp, expansion, key_expansion}
use Rattle.aes_spec.specs.Cipher.{sub_bytes, shift_rows, mix_columns, add_round_key, after_rounds, cipher, aes}
use Rattle.ctr.specs.Ctr.{inc32, keystream, ctr}
use Rattle.gcm.specs.Field.{next, mul_from, mul}
use Rattle.gcm.specs.Gcm.{ghash_from, ghash, pad, subkey, j0, crypt, hashed, tag, seal}

product_2 : mul 0x0388dace60b6a392f328c2b971b2fe78 0x66e94bd4ef8a2c3b884cfa59ca342b2e ≡ 0x5e2ec746917062882c85b0685353deb7
unfolding next mul_from mul
product_2 = refl

case_13 : seal (aes 8 (replicate 32 0)) (replicate 12 0) [] [] ≡ be 16 0x530f8afbc74536b9a963b4f1c4cb738b
unfolding f.xtimes f.mul_bits f.mul sbox words word_bytes sub_word rot_word power_of_x rcon temp expansion key_expansion xors sub_bytes shift_rows mix_columns add_round_key after_rounds cipher aes int_from int be next mul_from mul inc32 ghash_from ghash pad keystream ctr subkey j0 crypt hashed tag seal
case_13 = refl

case_14 : seal (aes 8 (replicate 32 0)) (replicate 12 0) [] (replicate 16 0)
    ≡ be 16 0xcea7403d4d606b6e074ec5d3baf39d18 ++ be 16 0xd0d1c8a799996bf0265b98b5d48ab919
unfolding f.xtimes f.mul_bits f.mul sbox words word_bytes sub_word rot_word power_of_x rcon temp expansion key_expansion xors sub_bytes shift_rows mix_columns add_round_key after_rounds cipher aes int_from int be next mul_from mul inc32 ghash_from ghash pad keystream ctr subkey j0 crypt hashed tag seal
case_14 = refl

abbrev key16 : List ℕ
key16 = be 32 0xfeffe9928665731c6d6a8f9467308308feffe9928665731c6d6a8f9467308308

abbrev iv16 : List ℕ
iv16 = be 12 0xcafebabefacedbaddecaf888

abbrev aad16 : List ℕ
aad16 = be 20 0xfeedfacedeadbeeffeedfacedeadbeefabaddad2

abbrev clear16 : List ℕ
clear16 = be 60 0xd9313225f88406e5a55909c5aff5269a86a7a9531534f7da2e4c303d8a318a721c3c0c95956809532fcf0e2449a6b525b16aedf5aa0de657ba637b39

abbrev sealed16 : List ℕ
sealed16 = be 60 0x522dc1f099567d07f47f37a32a84427d643a8cdcbfe5c0c97598a2bd2555d1aa8cb08e48590dbb3da7b08b1056828838c5f61e6393ba7a0abcc9f662 ++ be 16 0x76fc6ece0f4e1768cddf8853bb2d551b

case_16 : seal (aes 8 key16) iv16 aad16 clear16 ≡ sealed16
unfolding f.xtimes f.mul_bits f.mul sbox words word_bytes sub_word rot_word power_of_x rcon temp expansion key_expansion xors sub_bytes shift_rows mix_columns add_round_key after_rounds cipher aes int_from int be next mul_from mul inc32 ghash_from ghash pad keystream ctr subkey j0 crypt hashed tag seal
case_16 = refl
