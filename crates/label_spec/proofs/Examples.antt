-- The examples, worked out from the definitions.
-- Assumes nothing.
use mathlib.Core.Path.{refl}
use Rattle.octets.specs.Bytes.{same}
use Rattle.octets.specs.BigEndian.{be}
use Rattle.octets.specs.Rows.{answer}
use Rattle.utf8.specs.Utf8.{utf8_1, utf8_2, utf8_3, utf8_4, well_formed}
use Rattle.utf8.specs.Character as utf8
use Rattle.utf8.specs.Character.{size, character}
use Rattle.encoding.specs.Base64url as base64url
use Rattle.encoding.specs.Base64url.{octets, canonical, alphabet, place, value, known, pad_length, body, accepted, decoded}
use Rattle.encoding.specs.Broken.{fewest_bytes, fits, stop_from, stop, broken_at}
use Rattle.json_grammar.specs.Json.{byte, ws, word, digits, some_digits, minus, int, frac, sign, exp, number, unescaped, hex_digit, hex_digits, escaped, char, chars, string, next, opened, nested, value_by, elements_by, members_by, read_part, read_value}
use Rattle.json_grammar.specs.Members.{decimal_from, number_of, text_of, value_of, members_from, object_from, ended, object_of, given, one_text, one_whole}
use Rattle.label_spec.specs.Label.{dots, until_dot, header_part, payload_part, signature_part, signed_part, three_parts, segments_right, payload_start, signature_start, broken_segment, alg_of, payload_of, reading_of, reading, said, unreadable, open_label_rows, open_label}
use Rattle.label_spec.specs.Examples.{Gives, GivesNone, headers, no_headers, payloads, no_payloads, labels, no_labels, FirstRows, Row13, places, Examples}

headers_say : Gives alg_of headers
unfolding be byte ws word digits some_digits minus int frac sign exp number utf8_1 utf8_2 utf8_3 utf8_4 well_formed size utf8.number character unescaped hex_digit hex_digits escaped char chars string next opened nested value_by elements_by members_by read_part read_value same decimal_from number_of text_of value_of members_from object_from ended object_of given one_text one_whole alg_of
headers_say = (refl, (refl, (refl, (refl, (refl, (refl, (refl, tt)))))))

no_headers_lem : GivesNone alg_of no_headers
unfolding be byte ws word digits some_digits minus int frac sign exp number utf8_1 utf8_2 utf8_3 utf8_4 well_formed size utf8.number character unescaped hex_digit hex_digits escaped char chars string next opened nested value_by elements_by members_by read_part read_value same decimal_from number_of text_of value_of members_from object_from ended object_of given one_text one_whole alg_of
no_headers_lem = (refl, (refl, (refl, (refl, (refl, (refl, (refl, (refl, (refl, (refl, (refl, (refl, (refl, (refl, (refl, (refl, (refl, (refl, (refl, tt)))))))))))))))))))

payloads_say : Gives payload_of payloads
unfolding be byte ws word digits some_digits minus int frac sign exp number utf8_1 utf8_2 utf8_3 utf8_4 well_formed size utf8.number character unescaped hex_digit hex_digits escaped char chars string next opened nested value_by elements_by members_by read_part read_value same decimal_from number_of text_of value_of members_from object_from ended object_of given one_text one_whole payload_of
payloads_say = (refl, (refl, (refl, (refl, (refl, (refl, (refl, (refl, (refl, (refl, (refl, (refl, (refl, (refl, (refl, tt)))))))))))))))

no_payloads_lem : GivesNone payload_of no_payloads
unfolding be byte ws word digits some_digits minus int frac sign exp number utf8_1 utf8_2 utf8_3 utf8_4 well_formed size utf8.number character unescaped hex_digit hex_digits escaped char chars string next opened nested value_by elements_by members_by read_part read_value same decimal_from number_of text_of value_of members_from object_from ended object_of given one_text one_whole payload_of
no_payloads_lem = (refl, (refl, (refl, (refl, (refl, (refl, (refl, (refl, (refl, (refl, (refl, (refl, (refl, (refl, (refl, (refl, (refl, (refl, (refl, (refl, (refl, (refl, (refl, (refl, (refl, (refl, (refl, (refl, (refl, (refl, (refl, (refl, (refl, (refl, (refl, tt)))))))))))))))))))))))))))))))))))

labels_say : Gives reading labels
unfolding be byte ws word digits some_digits minus int frac sign exp number utf8_1 utf8_2 utf8_3 utf8_4 well_formed size utf8.number character unescaped hex_digit hex_digits escaped char chars string next opened nested value_by elements_by members_by read_part read_value same decimal_from number_of text_of value_of members_from object_from ended object_of given one_text one_whole octets canonical alphabet place value known pad_length body base64url.whole accepted decoded alg_of payload_of dots until_dot header_part payload_part signature_part signed_part three_parts segments_right reading_of reading
labels_say = (refl, (refl, (refl, (refl, (refl, tt)))))

no_labels_lem : GivesNone reading no_labels
unfolding be byte ws word digits some_digits minus int frac sign exp number utf8_1 utf8_2 utf8_3 utf8_4 well_formed size utf8.number character unescaped hex_digit hex_digits escaped char chars string next opened nested value_by elements_by members_by read_part read_value same decimal_from number_of text_of value_of members_from object_from ended object_of given one_text one_whole octets canonical alphabet place value known pad_length body base64url.whole accepted decoded alg_of payload_of dots until_dot header_part payload_part signature_part signed_part three_parts segments_right reading_of reading
no_labels_lem = (refl, (refl, (refl, (refl, (refl, (refl, (refl, (refl, (refl, (refl, (refl, (refl, (refl, (refl, (refl, (refl, (refl, (refl, (refl, (refl, tt))))))))))))))))))))

first_rows : FirstRows
unfolding be byte ws word digits some_digits minus int frac sign exp number utf8_1 utf8_2 utf8_3 utf8_4 well_formed size utf8.number character unescaped hex_digit hex_digits escaped char chars string next opened nested value_by elements_by members_by read_part read_value same decimal_from number_of text_of value_of members_from object_from ended object_of given one_text one_whole octets canonical alphabet place value known pad_length body base64url.whole accepted decoded alg_of payload_of dots until_dot header_part payload_part signature_part signed_part three_parts segments_right reading_of reading said broken_segment unreadable answer open_label_rows open_label
first_rows = (refl, refl, refl, refl, refl, refl)

places-told : Row13 places
unfolding octets canonical alphabet place value known pad_length body base64url.whole accepted decoded fewest_bytes fits stop_from stop broken_at be byte ws word digits some_digits minus int frac sign exp number utf8_1 utf8_2 utf8_3 utf8_4 well_formed size utf8.number character unescaped hex_digit hex_digits escaped char chars string next opened nested value_by elements_by members_by read_part read_value same decimal_from number_of text_of value_of members_from object_from ended object_of given one_text one_whole alg_of payload_of dots until_dot header_part payload_part signature_part signed_part three_parts segments_right payload_start signature_start broken_segment reading_of reading said unreadable answer open_label_rows open_label
places-told = (refl, (refl, (refl, (refl, (refl, (refl, (refl, (refl, (refl, (refl, (refl, (refl, tt))))))))))))

pub examples : Examples
examples = (headers_say, no_headers_lem, payloads_say, no_payloads_lem, labels_say, no_labels_lem, first_rows, places-told)
