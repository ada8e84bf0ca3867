-- The labels, opened by computing.
-- Assumes nothing.
use mathlib.Core.Path.{refl}
use Rattle.octets.specs.Bytes.{same}
use Rattle.octets.specs.BigEndian.{be}
use Rattle.octets.specs.Rows.{answer}
use Rattle.octets.specs.Words.{words, word_bytes}
use Rattle.octets.specs.Xors.{xors}
use Rattle.utf8.specs.Utf8.{utf8_1, utf8_2, utf8_3, utf8_4, well_formed}
use Rattle.utf8.specs.Character as utf8
use Rattle.utf8.specs.Character.{size, character}
use Rattle.encoding.specs.Base64url as base64url
use Rattle.encoding.specs.Base64url.{octets, canonical, alphabet, place, value, known, pad_length, body, accepted, decoded}
use Rattle.threshold.specs.Threshold.{threshold_right}
use Rattle.json_grammar.specs.Json.{byte, ws, word, digits, some_digits, minus, int, frac, sign, exp, number, unescaped, hex_digit, hex_digits, escaped, char, chars, string, next, opened, nested, value_by, elements_by, members_by, read_part, read_value}
use Rattle.json_grammar.specs.Members.{decimal_from, number_of, text_of, value_of, members_from, object_from, ended, object_of, given, one_text, one_whole}
use Rattle.hashing.specs.Operations.{ch, maj}
use Rattle.hashing.specs.Schedule.{extended}
use Rattle.hashing.specs.Message.{padding, padded, hash_from, digest}
use Rattle.sha256.specs.Operations.{rotr, Σ0, Σ1, σ0, σ1}
use Rattle.sha256.specs.Constants.{constants}
use Rattle.sha256.specs.Compression.{schedule, step, steps, added, compress}
use Rattle.sha256.specs.Message.{initial, sha256}
use Rattle.hmac.specs.Hmac.{to_block, key_block, hmac}
use Rattle.label_spec.specs.Label.{combo_number, dots, until_dot, header_part, payload_part, signature_part, signed_part, three_parts, segments_right, alg_of, payload_of, reading_of, reading, said, open_label_rows, open_label}
use Rattle.known_label.specs.Label.{DistinctLabel, NoSignature, LongSignature, ExchangedKey, LeastThreshold, FormatNine, UnknownCombo, ThresholdTooLow, ThresholdTooHigh, SignatureFirst, NegativeFormat, NegativeThreshold}

pub distinct-label : DistinctLabel
unfolding be byte ws word digits some_digits minus int frac sign exp number utf8_1 utf8_2 utf8_3 utf8_4 well_formed size utf8.number character unescaped hex_digit hex_digits escaped char chars string next opened nested value_by elements_by members_by read_part read_value same decimal_from number_of text_of value_of members_from object_from ended object_of given one_text one_whole octets canonical alphabet place value known pad_length body base64url.whole accepted decoded alg_of payload_of dots until_dot header_part payload_part signature_part signed_part three_parts segments_right reading_of reading said threshold_right combo_number answer open_label_rows open_label words word_bytes xors rotr ch maj padding padded hash_from digest Σ0 Σ1 σ0 σ1 constants initial extended schedule step steps added compress sha256 to_block key_block hmac
distinct-label = refl

pub no_signature : NoSignature
unfolding be byte ws word digits some_digits minus int frac sign exp number utf8_1 utf8_2 utf8_3 utf8_4 well_formed size utf8.number character unescaped hex_digit hex_digits escaped char chars string next opened nested value_by elements_by members_by read_part read_value same decimal_from number_of text_of value_of members_from object_from ended object_of given one_text one_whole octets canonical alphabet place value known pad_length body base64url.whole accepted decoded alg_of payload_of dots until_dot header_part payload_part signature_part signed_part three_parts segments_right reading_of reading said threshold_right combo_number answer open_label_rows open_label words word_bytes xors rotr ch maj padding padded hash_from digest Σ0 Σ1 σ0 σ1 constants initial extended schedule step steps added compress sha256 to_block key_block hmac
no_signature = refl

pub long_signature : LongSignature
unfolding be byte ws word digits some_digits minus int frac sign exp number utf8_1 utf8_2 utf8_3 utf8_4 well_formed size utf8.number character unescaped hex_digit hex_digits escaped char chars string next opened nested value_by elements_by members_by read_part read_value same decimal_from number_of text_of value_of members_from object_from ended object_of given one_text one_whole octets canonical alphabet place value known pad_length body base64url.whole accepted decoded alg_of payload_of dots until_dot header_part payload_part signature_part signed_part three_parts segments_right reading_of reading said threshold_right combo_number answer open_label_rows open_label words word_bytes xors rotr ch maj padding padded hash_from digest Σ0 Σ1 σ0 σ1 constants initial extended schedule step steps added compress sha256 to_block key_block hmac
long_signature = refl

pub exchanged_key_lem : ExchangedKey
unfolding be byte ws word digits some_digits minus int frac sign exp number utf8_1 utf8_2 utf8_3 utf8_4 well_formed size utf8.number character unescaped hex_digit hex_digits escaped char chars string next opened nested value_by elements_by members_by read_part read_value same decimal_from number_of text_of value_of members_from object_from ended object_of given one_text one_whole octets canonical alphabet place value known pad_length body base64url.whole accepted decoded alg_of payload_of dots until_dot header_part payload_part signature_part signed_part three_parts segments_right reading_of reading said threshold_right combo_number answer open_label_rows open_label words word_bytes xors rotr ch maj padding padded hash_from digest Σ0 Σ1 σ0 σ1 constants initial extended schedule step steps added compress sha256 to_block key_block hmac
exchanged_key_lem = refl

pub least_threshold_lem : LeastThreshold
unfolding be byte ws word digits some_digits minus int frac sign exp number utf8_1 utf8_2 utf8_3 utf8_4 well_formed size utf8.number character unescaped hex_digit hex_digits escaped char chars string next opened nested value_by elements_by members_by read_part read_value same decimal_from number_of text_of value_of members_from object_from ended object_of given one_text one_whole octets canonical alphabet place value known pad_length body base64url.whole accepted decoded alg_of payload_of dots until_dot header_part payload_part signature_part signed_part three_parts segments_right reading_of reading said threshold_right combo_number answer open_label_rows open_label words word_bytes xors rotr ch maj padding padded hash_from digest Σ0 Σ1 σ0 σ1 constants initial extended schedule step steps added compress sha256 to_block key_block hmac
least_threshold_lem = refl

pub format_nine : FormatNine
unfolding be byte ws word digits some_digits minus int frac sign exp number utf8_1 utf8_2 utf8_3 utf8_4 well_formed size utf8.number character unescaped hex_digit hex_digits escaped char chars string next opened nested value_by elements_by members_by read_part read_value same decimal_from number_of text_of value_of members_from object_from ended object_of given one_text one_whole octets canonical alphabet place value known pad_length body base64url.whole accepted decoded alg_of payload_of dots until_dot header_part payload_part signature_part signed_part three_parts segments_right reading_of reading said threshold_right combo_number answer open_label_rows open_label words word_bytes xors rotr ch maj padding padded hash_from digest Σ0 Σ1 σ0 σ1 constants initial extended schedule step steps added compress sha256 to_block key_block hmac
format_nine = refl

pub unknown_combo : UnknownCombo
unfolding be byte ws word digits some_digits minus int frac sign exp number utf8_1 utf8_2 utf8_3 utf8_4 well_formed size utf8.number character unescaped hex_digit hex_digits escaped char chars string next opened nested value_by elements_by members_by read_part read_value same decimal_from number_of text_of value_of members_from object_from ended object_of given one_text one_whole octets canonical alphabet place value known pad_length body base64url.whole accepted decoded alg_of payload_of dots until_dot header_part payload_part signature_part signed_part three_parts segments_right reading_of reading said threshold_right combo_number answer open_label_rows open_label words word_bytes xors rotr ch maj padding padded hash_from digest Σ0 Σ1 σ0 σ1 constants initial extended schedule step steps added compress sha256 to_block key_block hmac
unknown_combo = refl

pub threshold_too_low : ThresholdTooLow
unfolding be byte ws word digits some_digits minus int frac sign exp number utf8_1 utf8_2 utf8_3 utf8_4 well_formed size utf8.number character unescaped hex_digit hex_digits escaped char chars string next opened nested value_by elements_by members_by read_part read_value same decimal_from number_of text_of value_of members_from object_from ended object_of given one_text one_whole octets canonical alphabet place value known pad_length body base64url.whole accepted decoded alg_of payload_of dots until_dot header_part payload_part signature_part signed_part three_parts segments_right reading_of reading said threshold_right combo_number answer open_label_rows open_label words word_bytes xors rotr ch maj padding padded hash_from digest Σ0 Σ1 σ0 σ1 constants initial extended schedule step steps added compress sha256 to_block key_block hmac
threshold_too_low = refl

pub threshold_too_high : ThresholdTooHigh
unfolding be byte ws word digits some_digits minus int frac sign exp number utf8_1 utf8_2 utf8_3 utf8_4 well_formed size utf8.number character unescaped hex_digit hex_digits escaped char chars string next opened nested value_by elements_by members_by read_part read_value same decimal_from number_of text_of value_of members_from object_from ended object_of given one_text one_whole octets canonical alphabet place value known pad_length body base64url.whole accepted decoded alg_of payload_of dots until_dot header_part payload_part signature_part signed_part three_parts segments_right reading_of reading said threshold_right combo_number answer open_label_rows open_label words word_bytes xors rotr ch maj padding padded hash_from digest Σ0 Σ1 σ0 σ1 constants initial extended schedule step steps added compress sha256 to_block key_block hmac
threshold_too_high = refl

pub signature-first : SignatureFirst
unfolding be byte ws word digits some_digits minus int frac sign exp number utf8_1 utf8_2 utf8_3 utf8_4 well_formed size utf8.number character unescaped hex_digit hex_digits escaped char chars string next opened nested value_by elements_by members_by read_part read_value same decimal_from number_of text_of value_of members_from object_from ended object_of given one_text one_whole octets canonical alphabet place value known pad_length body base64url.whole accepted decoded alg_of payload_of dots until_dot header_part payload_part signature_part signed_part three_parts segments_right reading_of reading said threshold_right combo_number answer open_label_rows open_label words word_bytes xors rotr ch maj padding padded hash_from digest Σ0 Σ1 σ0 σ1 constants initial extended schedule step steps added compress sha256 to_block key_block hmac
signature-first = refl

pub negative-format : NegativeFormat
unfolding be byte ws word digits some_digits minus int frac sign exp number utf8_1 utf8_2 utf8_3 utf8_4 well_formed size utf8.number character unescaped hex_digit hex_digits escaped char chars string next opened nested value_by elements_by members_by read_part read_value same decimal_from number_of text_of value_of members_from object_from ended object_of given one_text one_whole octets canonical alphabet place value known pad_length body base64url.whole accepted decoded alg_of payload_of dots until_dot header_part payload_part signature_part signed_part three_parts segments_right reading_of reading said threshold_right combo_number answer open_label_rows open_label words word_bytes xors rotr ch maj padding padded hash_from digest Σ0 Σ1 σ0 σ1 constants initial extended schedule step steps added compress sha256 to_block key_block hmac
negative-format = refl

pub negative-threshold : NegativeThreshold
unfolding be byte ws word digits some_digits minus int frac sign exp number utf8_1 utf8_2 utf8_3 utf8_4 well_formed size utf8.number character unescaped hex_digit hex_digits escaped char chars string next opened nested value_by elements_by members_by read_part read_value same decimal_from number_of text_of value_of members_from object_from ended object_of given one_text one_whole octets canonical alphabet place value known pad_length body base64url.whole accepted decoded alg_of payload_of dots until_dot header_part payload_part signature_part signed_part three_parts segments_right reading_of reading said threshold_right combo_number answer open_label_rows open_label words word_bytes xors rotr ch maj padding padded hash_from digest Σ0 Σ1 σ0 σ1 constants initial extended schedule step steps added compress sha256 to_block key_block hmac
negative-threshold = refl
