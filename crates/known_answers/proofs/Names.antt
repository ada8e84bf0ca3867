-- The names and paths, computed.
-- Assumes nothing.
use mathlib.Core.Path.{refl}
use Rattle.octets.specs.Bytes.{same}
use Rattle.octets.specs.BigEndian.{int_from, int, be}
use Rattle.octets.specs.Rows.{answer}
use Rattle.octets.specs.Words.{words, word_bytes}
use Rattle.octets.specs.Xors.{xors}
use Rattle.aes_spec.specs.Field as f
use Rattle.aes_spec.specs.SBox.{sbox}
use Rattle.aes_spec.specs.KeyExpansion.{sub_word, rot_word, power_of_x, rcon, temp, expansion, key_expansion}
use Rattle.aes_spec.specs.Cipher.{sub_bytes, shift_rows, mix_columns, add_round_key, after_rounds, cipher, aes}
use Rattle.ctr.specs.Ctr.{inc128, keystream, ctr}
use Rattle.siv.specs.Cmac.{dbl, pad, subkey1, subkey2, chain, last_block, cmac_from, cmac}
use Rattle.siv.specs.Siv.{xorend, s2v_last, s2v_from, s2v, counter_of, crypt, seal, plain, good}
use Rattle.hashing.specs.Operations.{ch, maj}
use Rattle.hashing.specs.Schedule.{extended}
use Rattle.hashing.specs.Message.{padding, padded, hash_from, digest}
use Rattle.sha1_hash.specs.Operations.{rotl, parity}
use Rattle.sha1_hash.specs.Compression.{step_function, step_constant, schedule, step, steps, added, compress}
use Rattle.sha1_hash.specs.Message.{initial, sha1}
use Rattle.encoding.specs.Base32 as base32
use Rattle.encoding.specs.Base64url as base64url
use Rattle.utf8.specs.Utf8.{utf8_1, utf8_2, utf8_3, utf8_4, well_formed}
use Rattle.utf8.specs.ProperText.{lacks, proper_text}
use Rattle.threshold.specs.Threshold.{threshold_right}
use Rattle.frame.specs.Frame.{master_keys_right}
use Rattle.name_spec.specs.Names.{ascii, id_right, sealed_id, id_hash, path, sealed_name, full_name, hash_name, sealed_of, name_length, text_right, name_of, name_good}
use Rattle.name_spec.specs.Calls.{open_text_rows, open_name_rows, open_name}
use Rattle.known_answers.specs.Names.{StockPath, DistinctPath, DistinctFullName, DistinctHashName, LongestHashName, DistinctRootName, DistinctNameOpens, StrayByteRefused}

pub stock_path : StockPath
unfolding f.xtimes f.mul_bits f.mul sbox words word_bytes sub_word rot_word power_of_x rcon temp expansion key_expansion xors sub_bytes shift_rows mix_columns add_round_key after_rounds cipher aes int_from int be inc128 keystream ctr dbl pad subkey1 subkey2 chain last_block cmac_from cmac xorend s2v_last s2v_from s2v counter_of crypt seal rotl ch parity maj step_function step_constant extended schedule step steps added compress padding padded initial hash_from digest sha1 base32.quintets base32.alphabet base32.letter base32.encode sealed_id id_hash path
stock_path = refl

pub distinct-path : DistinctPath
unfolding f.xtimes f.mul_bits f.mul sbox words word_bytes sub_word rot_word power_of_x rcon temp expansion key_expansion xors sub_bytes shift_rows mix_columns add_round_key after_rounds cipher aes int_from int be inc128 keystream ctr dbl pad subkey1 subkey2 chain last_block cmac_from cmac xorend s2v_last s2v_from s2v counter_of crypt seal rotl ch parity maj step_function step_constant extended schedule step steps added compress padding padded initial hash_from digest sha1 base32.quintets base32.alphabet base32.letter base32.encode sealed_id id_hash path
distinct-path = refl

pub distinct-full-name : DistinctFullName
unfolding f.xtimes f.mul_bits f.mul sbox words word_bytes sub_word rot_word power_of_x rcon temp expansion key_expansion xors sub_bytes shift_rows mix_columns add_round_key after_rounds cipher aes int_from int be inc128 keystream ctr dbl pad subkey1 subkey2 chain last_block cmac_from cmac xorend s2v_last s2v_from s2v counter_of crypt seal base64url.sextets base64url.alphabet base64url.letter base64url.pad base64url.encode sealed_name full_name
distinct-full-name = refl

pub distinct_hash_name : DistinctHashName
unfolding words word_bytes int_from int be rotl ch parity maj step_function step_constant extended schedule step steps added compress padding padded initial hash_from digest sha1 base64url.sextets base64url.alphabet base64url.letter base64url.pad base64url.encode hash_name
distinct_hash_name = refl

pub longest_hash_name : LongestHashName
unfolding words word_bytes int_from int be rotl ch parity maj step_function step_constant extended schedule step steps added compress padding padded initial hash_from digest sha1 base64url.sextets base64url.alphabet base64url.letter base64url.pad base64url.encode hash_name
longest_hash_name = refl

pub distinct_root_name : DistinctRootName
unfolding f.xtimes f.mul_bits f.mul sbox words word_bytes sub_word rot_word power_of_x rcon temp expansion key_expansion xors sub_bytes shift_rows mix_columns add_round_key after_rounds cipher aes int_from int be inc128 keystream ctr dbl pad subkey1 subkey2 chain last_block cmac_from cmac xorend s2v_last s2v_from s2v counter_of crypt seal base64url.sextets base64url.alphabet base64url.letter base64url.pad base64url.encode sealed_name full_name
distinct_root_name = refl

pub distinct-name-opens : DistinctNameOpens
unfolding f.xtimes f.mul_bits f.mul sbox words word_bytes sub_word rot_word power_of_x rcon temp expansion key_expansion xors sub_bytes shift_rows mix_columns add_round_key after_rounds cipher aes int_from int be inc128 keystream ctr dbl pad subkey1 subkey2 chain last_block cmac_from cmac xorend s2v_last s2v_from s2v counter_of crypt plain good same base64url.octets base64url.canonical base64url.alphabet base64url.place base64url.value base64url.known base64url.pad_length base64url.body base64url.whole base64url.accepted base64url.decoded ascii id_right sealed_of name_length text_right name_of name_good utf8_1 utf8_2 utf8_3 utf8_4 well_formed lacks proper_text threshold_right master_keys_right answer open_text_rows open_name_rows open_name
distinct-name-opens = refl

pub stray_byte_refused : StrayByteRefused
unfolding f.xtimes f.mul_bits f.mul sbox words word_bytes sub_word rot_word power_of_x rcon temp expansion key_expansion xors sub_bytes shift_rows mix_columns add_round_key after_rounds cipher aes int_from int be inc128 keystream ctr dbl pad subkey1 subkey2 chain last_block cmac_from cmac xorend s2v_last s2v_from s2v counter_of crypt plain good same base64url.octets base64url.canonical base64url.alphabet base64url.place base64url.value base64url.known base64url.pad_length base64url.body base64url.whole base64url.accepted base64url.decoded ascii id_right sealed_of name_length text_right name_of name_good utf8_1 utf8_2 utf8_3 utf8_4 well_formed lacks proper_text threshold_right master_keys_right answer open_text_rows open_name_rows open_name
stray_byte_refused = refl
