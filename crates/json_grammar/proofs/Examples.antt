-- The examples, worked out from the definitions.
-- Assumes nothing.
use mathlib.Core.Path.{refl}
use Rattle.octets.specs.BigEndian.{be}
use Rattle.utf8.specs.Utf8.{utf8_1, utf8_2, utf8_3, utf8_4, well_formed}
use Rattle.utf8.specs.Character as utf8
use Rattle.utf8.specs.Character.{size, character}
use Rattle.json_grammar.specs.Json.{byte, ws, word, digits, some_digits, minus, int, frac, sign, exp, number, unescaped, hex_digit, hex_digits, escaped, char, chars, string, next, opened, nested, value_by, elements_by, members_by, read_part, read_value}
use Rattle.json_grammar.specs.Members.{decimal_from, number_of, text_of, value_of, members_from, object_from, ended, object_of}
use Rattle.json_grammar.specs.Examples.{Values, Leaves, Broken, rfc_texts, values, begun, broken, Escapes, Kinds, Classes, Examples}

rfc_texts_lem : Values rfc_texts
unfolding be byte ws word digits some_digits minus int frac sign exp number utf8_1 utf8_2 utf8_3 utf8_4 well_formed size utf8.number character unescaped hex_digit hex_digits escaped char chars string next opened nested value_by elements_by members_by read_part read_value
rfc_texts_lem = (refl, (refl, (refl, (refl, (refl, tt)))))

are_values : Values values
unfolding be byte ws word digits some_digits minus int frac sign exp number utf8_1 utf8_2 utf8_3 utf8_4 well_formed size utf8.number character unescaped hex_digit hex_digits escaped char chars string next opened nested value_by elements_by members_by read_part read_value
are_values = (refl, (refl, (refl, (refl, (refl, (refl, (refl, (refl, (refl, (refl, (refl, (refl, (refl, (refl, (refl, (refl, (refl, (refl, (refl, (refl, (refl, (refl, (refl, tt)))))))))))))))))))))))

are_begun : Leaves begun
unfolding be byte ws word digits some_digits minus int frac sign exp number utf8_1 utf8_2 utf8_3 utf8_4 well_formed size utf8.number character unescaped hex_digit hex_digits escaped char chars string next opened nested value_by elements_by members_by read_part read_value
are_begun = (refl, (refl, (refl, (refl, (refl, (refl, (refl, (refl, tt))))))))

are_broken : Broken broken
unfolding be byte ws word digits some_digits minus int frac sign exp number utf8_1 utf8_2 utf8_3 utf8_4 well_formed size utf8.number character unescaped hex_digit hex_digits escaped char chars string next opened nested value_by elements_by members_by read_part read_value
are_broken = (refl, (refl, (refl, (refl, (refl, (refl, (refl, (refl, (refl, (refl, (refl, (refl, (refl, (refl, (refl, (refl, (refl, (refl, (refl, (refl, (refl, (refl, (refl, (refl, (refl, (refl, (refl, (refl, (refl, (refl, (refl, (refl, (refl, (refl, (refl, (refl, (refl, (refl, (refl, (refl, (refl, (refl, (refl, (refl, (refl, (refl, (refl, (refl, (refl, (refl, (refl, (refl, (refl, (refl, (refl, (refl, tt))))))))))))))))))))))))))))))))))))))))))))))))))))))))

escapes : Escapes
unfolding be byte ws word digits some_digits minus int frac sign exp number utf8_1 utf8_2 utf8_3 utf8_4 well_formed size utf8.number character unescaped hex_digit hex_digits escaped char chars string next opened nested value_by elements_by members_by read_part read_value
escapes = refl

kinds : Kinds
unfolding be byte ws word digits some_digits minus int frac sign exp number utf8_1 utf8_2 utf8_3 utf8_4 well_formed size utf8.number character unescaped hex_digit hex_digits escaped char chars string next opened nested value_by elements_by members_by read_part read_value decimal_from number_of text_of value_of members_from object_from ended object_of
kinds = refl

classes : Classes
unfolding hex_digit hex_digits escaped
classes = (refl, refl, refl, refl, refl, refl)

pub examples : Examples
examples = (rfc_texts_lem, are_values, are_begun, are_broken, escapes, kinds, classes)
