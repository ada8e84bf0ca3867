-- The wrapped keys, computed; what the stock program's unwraps to follows from what its master key is wrapped to.
-- Assumes nothing.
use mathlib.Core.Path.{refl}
use lib.Dec.{lit≤}
use Rattle.octets.specs.BigEndian.{be}
use Rattle.octets.specs.Words.{words, word_bytes}
use Rattle.octets.specs.Xors.{xors}
use Rattle.octets.proofs.BigEndian.{length-be}
use Rattle.octets.proofs.Bytes.{below_replicate, bytes-be}
use Rattle.aes_spec.specs.Field.{xtimes, mul_bits, mul}
use Rattle.aes_spec.specs.SBox.{sbox}
use Rattle.aes_spec.specs.KeyExpansion.{sub_word, rot_word, power_of_x, rcon, temp, expansion, key_expansion}
use Rattle.aes_spec.specs.Cipher.{sub_bytes, shift_rows, mix_columns, add_round_key, after_rounds, cipher, aes}
use Rattle.aes_inverse.specs.InverseSBox.{inverse_sbox}
use Rattle.aes_inverse.specs.InverseCipher.{inv_shift_rows, inv_sub_bytes, inv_mix_columns, back_rounds, inv_cipher, inverse_aes}
use Rattle.key_wrap.specs.KeyWrap.{initial_value, wrap_step, wrap_steps, wrap, unwrap_step, unwrap_steps, unwrapped}
use Rattle.key_wrap.proofs.Calls.{unwraps_exactly}
use Rattle.known_keys.specs.Keys.{stock_kek, stock_key, stock_wrapped, Wrapped128, Unwrapped128, Wrapped192, Wrapped256, StockMasterKey, StockMasterKeyUnwraps, DistinctWrapped}

pub wrapped_128 : Wrapped128
unfolding be xtimes mul_bits mul sbox words word_bytes sub_word rot_word power_of_x rcon temp expansion key_expansion xors sub_bytes shift_rows mix_columns add_round_key after_rounds cipher aes initial_value wrap_step wrap_steps wrap
wrapped_128 = refl

pub unwrapped_128 : Unwrapped128
unfolding be xtimes mul_bits mul sbox inverse_sbox words word_bytes sub_word rot_word power_of_x rcon temp expansion key_expansion xors inv_sub_bytes inv_shift_rows inv_mix_columns add_round_key back_rounds inv_cipher inverse_aes unwrap_step unwrap_steps unwrapped
unwrapped_128 = refl

pub wrapped_192 : Wrapped192
unfolding be xtimes mul_bits mul sbox words word_bytes sub_word rot_word power_of_x rcon temp expansion key_expansion xors sub_bytes shift_rows mix_columns add_round_key after_rounds cipher aes initial_value wrap_step wrap_steps wrap
wrapped_192 = refl

pub wrapped_256 : Wrapped256
unfolding be xtimes mul_bits mul sbox words word_bytes sub_word rot_word power_of_x rcon temp expansion key_expansion xors sub_bytes shift_rows mix_columns add_round_key after_rounds cipher aes initial_value wrap_step wrap_steps wrap
wrapped_256 = refl

pub stock_master_key : StockMasterKey
unfolding be xtimes mul_bits mul sbox words word_bytes sub_word rot_word power_of_x rcon temp expansion key_expansion xors sub_bytes shift_rows mix_columns add_round_key after_rounds cipher aes initial_value wrap_step wrap_steps wrap
stock_master_key = refl

pub stock_master_key_unwraps : StockMasterKeyUnwraps
stock_master_key_unwraps =
    (unwraps_exactly stock_kek stock_wrapped _ (bytes-be 32 _) (bytes-be 40 _)).1 stock_key (length-be 32 _) (lit≤ tt)
    (record { size = refl; bytes = below_replicate 32 (lit≤ tt) }, stock_master_key)

pub distinct_wrapped : DistinctWrapped
unfolding be xtimes mul_bits mul sbox words word_bytes sub_word rot_word power_of_x rcon temp expansion key_expansion xors sub_bytes shift_rows mix_columns add_round_key after_rounds cipher aes initial_value wrap_step wrap_steps wrap
distinct_wrapped = refl
