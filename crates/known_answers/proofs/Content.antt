-- The headers and chunks, computed.
-- Assumes nothing.
use mathlib.Core.Path.{refl}
use Rattle.octets.specs.Bytes.{same}
use Rattle.octets.specs.BigEndian.{int_from, int, be}
use Rattle.octets.specs.Rows.{answer}
use Rattle.octets.specs.Words.{words, word_bytes}
use Rattle.octets.specs.Xors.{xors}
use Rattle.aes_spec.specs.Field as f
use Rattle.aes_spec.specs.SBox.{sbox}
use Rattle.aes_spec.specs.KeyExpansion.{sub_word, rot_word, power_of_x, rcon, temp, expansion, key_expansion}
use Rattle.aes_spec.specs.Cipher.{sub_bytes, shift_rows, mix_columns, add_round_key, after_rounds, cipher, aes}
use Rattle.ctr.specs.Ctr.{inc32, keystream, ctr}
use Rattle.gcm.specs.Field.{next, mul_from, mul}
use Rattle.gcm.specs.Gcm.{ghash_from, ghash, pad, subkey, j0, crypt, hashed, tag, seal, good, plain}
use Rattle.frame.specs.Single.{open_header_rows, open_header}
use Rattle.frame.specs.Frame.{master_keys_right}
use Rattle.siv_gcm.specs.SivGcm.{sealed, opens, opened, chunk_data, header_of, head_of, header_good}
use Rattle.known_answers.specs.Content.{StockHeader, StockChunk, DistinctHeader, ReservedHeader, ReservedHeaderOpens, DistinctChunk}

pub stock_header : StockHeader
unfolding f.xtimes f.mul_bits f.mul sbox words word_bytes sub_word rot_word power_of_x rcon temp expansion key_expansion xors sub_bytes shift_rows mix_columns add_round_key after_rounds cipher aes int_from int be next mul_from mul inc32 ghash_from ghash pad keystream ctr subkey j0 crypt hashed tag seal sealed header_of
stock_header = refl

pub stock_chunk : StockChunk
unfolding f.xtimes f.mul_bits f.mul sbox words word_bytes sub_word rot_word power_of_x rcon temp expansion key_expansion xors sub_bytes shift_rows mix_columns add_round_key after_rounds cipher aes int_from int be next mul_from mul inc32 ghash_from ghash pad keystream ctr subkey j0 crypt hashed tag seal sealed chunk_data
stock_chunk = refl

pub distinct-header : DistinctHeader
unfolding f.xtimes f.mul_bits f.mul sbox words word_bytes sub_word rot_word power_of_x rcon temp expansion key_expansion xors sub_bytes shift_rows mix_columns add_round_key after_rounds cipher aes int_from int be next mul_from mul inc32 ghash_from ghash pad keystream ctr subkey j0 crypt hashed tag seal sealed header_of
distinct-header = refl

pub reserved-header : ReservedHeader
unfolding f.xtimes f.mul_bits f.mul sbox words word_bytes sub_word rot_word power_of_x rcon temp expansion key_expansion xors sub_bytes shift_rows mix_columns add_round_key after_rounds cipher aes int_from int be next mul_from mul inc32 ghash_from ghash pad keystream ctr subkey j0 crypt hashed tag seal sealed header_of
reserved-header = refl

pub reserved-header-opens : ReservedHeaderOpens
unfolding f.xtimes f.mul_bits f.mul sbox words word_bytes sub_word rot_word power_of_x rcon temp expansion key_expansion xors sub_bytes shift_rows mix_columns add_round_key after_rounds cipher aes int_from int be next mul_from mul inc32 ghash_from ghash pad keystream ctr subkey j0 crypt hashed tag good plain same opens opened head_of header_good master_keys_right answer open_header_rows open_header
reserved-header-opens = refl

pub distinct_chunk : DistinctChunk
unfolding f.xtimes f.mul_bits f.mul sbox words word_bytes sub_word rot_word power_of_x rcon temp expansion key_expansion xors sub_bytes shift_rows mix_columns add_round_key after_rounds cipher aes int_from int be next mul_from mul inc32 ghash_from ghash pad keystream ctr subkey j0 crypt hashed tag seal sealed chunk_data
distinct_chunk = refl
