-- JSON values and what is none: the examples of RFC 8259 and texts that break a rule. `proofs/` works each out.
-- Assumes nothing.
use Rattle.std.specs.Prelude.{ℕ, zero, suc, ◌≡◌, Bool, true, false, cond, not, List, [], ◌∷◌}
use Rattle.std.proofs.Math.Option.{Option, none, some}
use Rattle.octets.specs.BigEndian.{be}
use Rattle.json_grammar.specs.Quoted.{ascii}
use Rattle.json_grammar.specs.Json.{is_space, is_digit, is_exponent, is_unescaped, escaped, string, read_value}
use Rattle.json_grammar.specs.Grammar.{is_hex}
use Rattle.json_grammar.specs.Members.{text, whole, other, object_of}
use Rattle.json_grammar.specs.Objects.{member}

-- Each of the texts is a value, of at most eight levels.
abbrev pub Values : List (List ℕ) → Type 0
Values [] = Unit {0}
Values (s ∷ texts) = (read_value 8 s ≡ some []) × Values texts

-- None of them begins with one.
abbrev pub Broken : List (List ℕ) → Type 0
Broken [] = Unit {0}
Broken (s ∷ texts) = (read_value 8 s ≡ none) × Broken texts

-- Each begins with a value, behind which the second text stands.
abbrev pub Leaves : List (List ℕ × List ℕ) → Type 0
Leaves [] = Unit {0}
Leaves (p ∷ texts) = (read_value 8 p.0 ≡ some p.1) × Leaves texts

-- Section 13: an object, an array of objects, shortened, and small texts.
abbrev pub rfc_texts : List (List ℕ)
rfc_texts =
    ascii "{\n  \"Image\": {\n      \"Width\":  800,\n      \"Height\": 600,\n      \"Title\":  \"View from 15th Floor\",\n      \"Thumbnail\": {\n          \"Url\":    \"http://www.example.com/image/481989943\",\n          \"Height\": 125,\n          \"Width\":  100\n      },\n      \"Animated\" : false,\n      \"IDs\": [116, 943, 234, 38793]\n    }\n}"
    ∷ ascii "[\n  {\n     \"precision\": \"zip\",\n     \"Latitude\":  37.7668,\n     \"Longitude\": -122.3959,\n     \"Country\":   \"US\"\n  },\n  {\n     \"precision\": \"zip\",\n     \"Latitude\":  37.371991,\n     \"Country\":   \"US\"\n  }\n]"
    ∷ ascii "\"Hello world!\""
    ∷ ascii "42"
    ∷ ascii "true"
    ∷ []

-- Literal names, numbers, strings; empty arrays and objects; escapes, also of half a surrogate pair; characters of two, three and
-- four bytes; a name twice; white space; eight levels.
abbrev pub values : List (List ℕ)
values =
    ascii "false"
    ∷ ascii "null"
    ∷ ascii "-0"
    ∷ ascii "-0.0e+1"
    ∷ ascii "1E9"
    ∷ ascii "10.25"
    ∷ ascii "[]"
    ∷ ascii "{}"
    ∷ ascii "[ ]"
    ∷ ascii "{\t}"
    ∷ ascii "\"\""
    ∷ ascii "[\"\\\"\\\\\\/\\b\\f\\n\\r\\t\\uD834\\uDD1E\"]"
    ∷ ascii "\"\\ud800\""
    ∷ be 12 0x22c3a9e282acf09d849e7f22
    ∷ ascii "{\"a\":1,\"a\":2}"
    ∷ ascii "[1 , [2],\r\n{\"x\" : null }]"
    ∷ ascii "[116, 943, 234, 38793]"
    ∷ ascii "{\"\":[]}"
    ∷ ascii "[[[[[[[[]]]]]]]]"
    ∷ ascii "{\"a\":{\"a\":{\"a\":{\"a\":{\"a\":{\"a\":{\"a\":{\"a\":0}}}}}}}}"
    ∷ ascii "[1e0,1E+0,1e-0,0.0,-0.0]"
    ∷ ascii "\" !#[]~\""
    ∷ ascii "\"\\u0061\\u00E9\\u00e9\\uDEAD\""
    ∷ []

-- Behind a 0 at its start a number has no further digit, so that in 01 another number stands behind it; other texts go on behind a value.
abbrev pub begun : List (List ℕ × List ℕ)
begun =
    (ascii "01", be 1 0x31)
    ∷ (ascii "0x1", ascii "x1")
    ∷ (ascii "1]", be 1 0x5d)
    ∷ (ascii "1 2", ascii " 2")
    ∷ (ascii "truex", be 1 0x78)
    ∷ (ascii "\"\"a", be 1 0x61)
    ∷ (ascii "[]]", be 1 0x5d)
    ∷ (ascii "-1.5e3,", be 1 0x2c)
    ∷ []

-- Nothing; a space first; numbers that lack a part or have a wrong one; commas, brackets and names out of place; strings that do not end
-- or hold a control character; unknown escapes; UTF-8 that is overlong, a surrogate, past 10FFFF or cut; a byte order mark; nine
-- levels; a comment; bytes that are no white space.
abbrev pub broken : List (List ℕ)
broken =
    []
    ∷ ascii " 1"
    ∷ be 1 0x2d
    ∷ ascii "1."
    ∷ ascii "1e"
    ∷ ascii "1e+"
    ∷ ascii "+1"
    ∷ ascii ".5"
    ∷ ascii "-a"
    ∷ ascii "[1,]"
    ∷ ascii "[,1]"
    ∷ ascii "[1 2]"
    ∷ be 1 0x5b
    ∷ ascii "[1"
    ∷ ascii "{,}"
    ∷ ascii "{\"a\"}"
    ∷ ascii "{\"a\":}"
    ∷ ascii "{\"a\":1,}"
    ∷ ascii "{a:1}"
    ∷ ascii "{'a':1}"
    ∷ ascii "tru"
    ∷ ascii "True"
    ∷ ascii "nul"
    ∷ ascii "NaN"
    ∷ be 1 0x22
    ∷ ascii "\"a"
    ∷ ascii "\"\n\""
    ∷ be 3 0x221f22
    ∷ ascii "\"\\x41\""
    ∷ ascii "\"\\u12G4\""
    ∷ ascii "\"\\u123\""
    ∷ ascii "\"\\"
    ∷ be 4 0x22c08022
    ∷ be 4 0x22c1bf22
    ∷ be 5 0x22e09fbf22
    ∷ be 5 0x22eda08022
    ∷ be 6 0x22f08fbfbf22
    ∷ be 6 0x22f490808022
    ∷ be 6 0x22f580808022
    ∷ be 3 0x228022
    ∷ be 4 0x22e28222
    ∷ be 4 0xefbbbf31
    ∷ ascii "[[[[[[[[[]]]]]]]]]"
    ∷ ascii "{\"a\":{\"a\":{\"a\":{\"a\":{\"a\":{\"a\":{\"a\":{\"a\":{\"a\":0}}}}}}}}}"
    ∷ ascii "[}"
    ∷ ascii "{]"
    ∷ ascii "/**/1"
    ∷ be 3 0x5b0c5d
    ∷ be 3 0x5b0b5d
    ∷ be 3 0x5b005d
    ∷ be 4 0x5bc2a05d
    ∷ ascii "\"\\U0041\""
    ∷ ascii "[01]"
    ∷ ascii "[1.e1]"
    ∷ ascii "{1:2}"
    ∷ be 3 0x220022
    ∷ []

-- A string with each escape: the characters that it stands for.
abbrev pub Escapes : Type 0
Escapes =
    string (ascii "\"\\u0123\\u4567\\u89ab\\ucdef\\u89AB\\uCDEF\\\"\\\\\\/\\b\\f\\n\\r\\t\"")
    ≡ some (0x123 ∷ 0x4567 ∷ 0x89ab ∷ 0xcdef ∷ 0x89ab ∷ 0xcdef ∷ 0x22 ∷ 0x5c ∷ 0x2f ∷ 0x08 ∷ 0x0c ∷ 0x0a ∷ 0x0d ∷ 0x09 ∷ [], [])

-- An object with members of each kind: a name twice, an escaped name, whole numbers and others.
abbrev pub Kinds : Type 0
Kinds =
    object_of (ascii " {\"a\":-8, \"a\":8.0,\"\\u0062\":\"x\\u0079\",\"c\":[1],\"d\":1234567890 ,\"e\":8e0,\"f\":-0} ")
    ≡ some (member ((0x61 ∷ [])) (whole true 8) ∷ member ((0x61 ∷ [])) other ∷ member ((0x62 ∷ [])) (text (ascii "xy")) ∷ member ((0x63 ∷ [])) other
    ∷ member ((0x64 ∷ [])) (whole false 1234567890) ∷ member ((0x65 ∷ [])) other ∷ member ((0x66 ∷ [])) (whole true 0) ∷ [])

-- Those of the numbers below n that pass a test, the highest first.
abbrev pub picked : (ℕ → Bool) → ℕ → List ℕ
picked test zero = []
picked test (suc n) = cond (test n) (n ∷ picked test n) (picked test n)

abbrev pub taken : {A : Type 0} → Option A → Bool
taken none = false
taken (some a) = true

-- Of all bytes: white space, digits, hexadecimal digits, exponents, what cannot stand unescaped, and what '\' makes a character by itself.
abbrev pub Classes : Type 0
Classes =
    (picked is_space 256 ≡ 0x20 ∷ 0x0d ∷ 0x0a ∷ 0x09 ∷ [])
    × (picked is_digit 256 ≡ ascii "9876543210")
    × (picked is_hex 256 ≡ ascii "fedcbaFEDCBA9876543210")
    × (picked is_exponent 256 ≡ ascii "eE")
    × (picked (λ n. not (is_unescaped n)) 256 ≡ 0x5c ∷ 0x22 ∷ picked (λ n. true) 0x20)
    × (picked (λ b. taken (escaped (b ∷ []))) 256 ≡ ascii "trnfb\\/\"")

abbrev pub Examples : Type 0
Examples = Values rfc_texts × Values values × Leaves begun × Broken broken × Escapes × Kinds × Classes
