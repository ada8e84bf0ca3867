-- The headers and chunks, computed.
-- Assumes nothing.
use mathlib.Core.Path.{refl}
use Rattle.octets.specs.Bytes.{same}
use Rattle.octets.specs.BigEndian.{int_from, int, be}
use Rattle.octets.specs.Rows.{answer}
use Rattle.octets.specs.Words.{words, word_bytes}
use Rattle.octets.specs.Xors.{xors}
use Rattle.aes_spec.specs.Field as f
use Rattle.aes_spec.specs.SBox.{sbox}
use Rattle.aes_spec.specs.KeyExpansion.{sub_word, rot_word, power_of_x, rcon, temp, expansion, key_expansion}
use Rattle.aes_spec.specs.Cipher.{sub_bytes, shift_rows, mix_columns, add_round_key, after_rounds, cipher, aes}
use Rattle.ctr.specs.Ctr.{inc128, keystream, ctr}
use Rattle.hashing.specs.Operations.{ch, maj}
use Rattle.hashing.specs.Schedule.{extended}
use Rattle.hashing.specs.Message.{padding, padded, hash_from, digest}
use Rattle.sha256.specs.Operations.{rotr, Σ0, Σ1, σ0, σ1}
use Rattle.sha256.specs.Constants.{constants}
use Rattle.sha256.specs.Compression.{schedule, step, steps, added, compress}
use Rattle.sha256.specs.Message.{initial, sha256}
use Rattle.hmac.specs.Hmac.{to_block, key_block, hmac}
use Rattle.frame.specs.Frame.{master_keys_right}
use Rattle.frame.specs.Single.{open_header_rows, open_header}
use Rattle.siv_ctrmac.specs.SivCtrmac.{sealed, opens, opened, chunk_data, header_of, head_of, header_good}
use Rattle.known_ctrmac.specs.Content.{LongestFile, StockChunk, DistinctHeader, ReservedHeader, ReservedHeaderOpens, DistinctChunk, LongChunk, CounterWraps, CounterCarries}

pub longest-file : LongestFile
longest-file = refl

pub stock_chunk : StockChunk
unfolding f.xtimes f.mul_bits f.mul sbox words word_bytes sub_word rot_word power_of_x rcon temp expansion key_expansion xors sub_bytes shift_rows mix_columns add_round_key after_rounds cipher aes int_from int be inc128 keystream ctr ch maj extended padding padded hash_from digest rotr Σ0 Σ1 σ0 σ1 constants schedule step steps added compress initial sha256 to_block key_block hmac sealed chunk_data
stock_chunk = refl

pub distinct-header : DistinctHeader
unfolding f.xtimes f.mul_bits f.mul sbox words word_bytes sub_word rot_word power_of_x rcon temp expansion key_expansion xors sub_bytes shift_rows mix_columns add_round_key after_rounds cipher aes int_from int be inc128 keystream ctr ch maj extended padding padded hash_from digest rotr Σ0 Σ1 σ0 σ1 constants schedule step steps added compress initial sha256 to_block key_block hmac sealed header_of
distinct-header = refl

pub reserved-header : ReservedHeader
unfolding f.xtimes f.mul_bits f.mul sbox words word_bytes sub_word rot_word power_of_x rcon temp expansion key_expansion xors sub_bytes shift_rows mix_columns add_round_key after_rounds cipher aes int_from int be inc128 keystream ctr ch maj extended padding padded hash_from digest rotr Σ0 Σ1 σ0 σ1 constants schedule step steps added compress initial sha256 to_block key_block hmac sealed header_of
reserved-header = refl

pub reserved-header-opens : ReservedHeaderOpens
unfolding f.xtimes f.mul_bits f.mul sbox words word_bytes sub_word rot_word power_of_x rcon temp expansion key_expansion xors sub_bytes shift_rows mix_columns add_round_key after_rounds cipher aes int_from int be inc128 keystream ctr ch maj extended padding padded hash_from digest rotr Σ0 Σ1 σ0 σ1 constants schedule step steps added compress initial sha256 to_block key_block hmac same opens opened head_of header_good master_keys_right answer open_header_rows open_header
reserved-header-opens = refl

pub distinct_chunk : DistinctChunk
unfolding f.xtimes f.mul_bits f.mul sbox words word_bytes sub_word rot_word power_of_x rcon temp expansion key_expansion xors sub_bytes shift_rows mix_columns add_round_key after_rounds cipher aes int_from int be inc128 keystream ctr ch maj extended padding padded hash_from digest rotr Σ0 Σ1 σ0 σ1 constants schedule step steps added compress initial sha256 to_block key_block hmac sealed chunk_data
distinct_chunk = refl

pub long_chunk : LongChunk
unfolding f.xtimes f.mul_bits f.mul sbox words word_bytes sub_word rot_word power_of_x rcon temp expansion key_expansion xors sub_bytes shift_rows mix_columns add_round_key after_rounds cipher aes int_from int be inc128 keystream ctr ch maj extended padding padded hash_from digest rotr Σ0 Σ1 σ0 σ1 constants schedule step steps added compress initial sha256 to_block key_block hmac sealed chunk_data
long_chunk = refl

pub counter_wraps : CounterWraps
unfolding f.xtimes f.mul_bits f.mul sbox words word_bytes sub_word rot_word power_of_x rcon temp expansion key_expansion xors sub_bytes shift_rows mix_columns add_round_key after_rounds cipher aes int_from int be inc128 keystream ctr ch maj extended padding padded hash_from digest rotr Σ0 Σ1 σ0 σ1 constants schedule step steps added compress initial sha256 to_block key_block hmac sealed chunk_data
counter_wraps = refl

pub counter_carries : CounterCarries
unfolding f.xtimes f.mul_bits f.mul sbox words word_bytes sub_word rot_word power_of_x rcon temp expansion key_expansion xors sub_bytes shift_rows mix_columns add_round_key after_rounds cipher aes int_from int be inc128 keystream ctr ch maj extended padding padded hash_from digest rotr Σ0 Σ1 σ0 σ1 constants schedule step steps added compress initial sha256 to_block key_block hmac sealed chunk_data
counter_carries = refl
