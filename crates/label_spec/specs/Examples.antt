-- Headers, payloads and labels, what they say, and what cannot be read. `proofs/` works each out.
-- Assumes nothing.
use Rattle.std.specs.Prelude.{ℕ, ◌≡◌, Bool, true, false, List, [], ◌∷◌, ◌++◌, replicate}
use Rattle.std.proofs.Math.Option.{Option, none, some}
use Rattle.octets.specs.BigEndian.{be}
use Rattle.octets.specs.Rows.{refused}
use Rattle.json_grammar.specs.Quoted.{ascii}
use Rattle.label_spec.specs.Label.{hs256, siv_gcm_name, siv_ctrmac_name, Reading, alg_of, payload_of, reading, row13, open_label}

-- For each text f gives what stands beside it.
abbrev pub Gives : {A : Type 0} → (List ℕ → Option A) → List (List ℕ × A) → Type 0
Gives f [] = Unit {0}
Gives f (p ∷ texts) = (f p.0 ≡ some p.1) × Gives f texts

-- For none of the texts f gives anything.
abbrev pub GivesNone : {A : Type 0} → (List ℕ → Option A) → List (List ℕ) → Type 0
GivesNone f [] = Unit {0}
GivesNone f (s ∷ texts) = (f s ≡ none) × GivesNone f texts

-- ---- headers

-- That of the stock program; alg alone; the name and the value by escapes; white space at every place; members of the payload, of any kind, also twice; another
-- algorithm; no characters.
abbrev pub headers : List (List ℕ × List ℕ)
headers =
    (ascii "{\"kid\":\"masterkeyfile:masterkey.cryptomator\",\"typ\":\"JWT\",\"alg\":\"HS256\"}", hs256)
    ∷ (ascii "{\"alg\":\"HS256\"}", hs256)
    ∷ (ascii "{\"\\u0061lg\":\"\\u0048S256\"}", hs256)
    ∷ (ascii " \t\r\n{ \"alg\"\n:\t\"HS256\" , \"typ\" : \"JWT\"\r} \n", hs256)
    ∷ (ascii "{\"format\":9,\"alg\":\"HS256\",\"format\":null}", hs256)
    ∷ (ascii "{\"alg\":\"none\"}", ascii "none")
    ∷ (ascii "{\"alg\":\"\"}", [])
    ∷ []

-- No text; white space alone; other values than an object; no alg; a name in another case; alg twice, also by an escape; no string; something behind the
-- object, or missing; a byte order mark.
abbrev pub no_headers : List (List ℕ)
no_headers =
    []
    ∷ ascii "  "
    ∷ ascii "[]"
    ∷ ascii "\"x\""
    ∷ ascii "null"
    ∷ ascii "[{\"alg\":\"HS256\"}]"
    ∷ ascii "{}"
    ∷ ascii "{\"Alg\":\"HS256\"}"
    ∷ ascii "{\"x\":{\"alg\":\"HS256\"}}"
    ∷ ascii "{\"alg\":\"HS256\",\"alg\":\"HS256\"}"
    ∷ ascii "{\"alg\":\"HS256\",\"al\\u0067\":\"none\"}"
    ∷ ascii "{\"alg\":256}"
    ∷ ascii "{\"alg\":null}"
    ∷ ascii "{\"alg\":[\"HS256\"]}"
    ∷ ascii "{\"alg\":\"HS256\"}{}"
    ∷ ascii "{\"alg\":\"HS256\"}."
    ∷ ascii "{\"alg\":\"HS256\","
    ∷ ascii "{\"alg\":\"HS256\",}"
    ∷ (be 3 0xefbbbf ++ ascii "{\"alg\":\"HS256\"}")
    ∷ []

-- ---- payloads

abbrev pub Said : Type 0
Said = (Bool × ℕ) × List ℕ × (Bool × ℕ)

-- What most of the payloads here say: format 8, SIV_GCM, 220.
abbrev pub usual : Said
usual = ((false, 8), siv_gcm_name, (false, 220))

-- Payloads with this text for the value of format, cipherCombo or shorteningThreshold; and with this behind all three.
abbrev pub format_is : List ℕ → List ℕ
format_is v = ascii "{\"format\":" ++ v ++ ascii ",\"cipherCombo\":\"SIV_GCM\",\"shorteningThreshold\":220}"

abbrev pub combo_is : List ℕ → List ℕ
combo_is v = ascii "{\"format\":8,\"cipherCombo\":" ++ v ++ ascii ",\"shorteningThreshold\":220}"

abbrev pub threshold_is : List ℕ → List ℕ
threshold_is v = ascii "{\"format\":8,\"cipherCombo\":\"SIV_GCM\",\"shorteningThreshold\":" ++ v ++ ascii "}"

abbrev pub more_members : List ℕ → List ℕ
more_members m = ascii "{\"format\":8,\"cipherCombo\":\"SIV_GCM\",\"shorteningThreshold\":220," ++ m ++ ascii "}"

-- That of the stock program; another order; escapes in a name and in a value; white space; numbers that are whole and not right; strings that are no combo;
-- members that are unknown here, also twice, of eight levels, and with half a surrogate pair.
abbrev pub payloads : List (List ℕ × Said)
payloads =
    (ascii "{\"jti\":\"0f8fad5b-d9cb-469f-a165-70867728950e\",\"format\":8,\"cipherCombo\":\"SIV_GCM\",\"shorteningThreshold\":220}", usual)
    ∷ (ascii "{\"shorteningThreshold\":220,\"cipherCombo\":\"SIV_GCM\",\"format\":8}", usual)
    ∷ (ascii "{\"\\u0066ormat\":8,\"cipherCombo\":\"SIV\\u005fGCM\",\"shortening\\u0054hreshold\":220}", usual)
    ∷ (ascii "\n{ \"format\" :\t8 , \"cipherCombo\" :\r\n\"SIV_GCM\" , \"shorteningThreshold\" : 220 }\n", usual)
    ∷ (format_is (ascii "-8"), ((true, 8), siv_gcm_name, (false, 220)))
    ∷ (format_is (ascii "-0"), ((true, 0), siv_gcm_name, (false, 220)))
    ∷ (format_is (ascii "18446744073709551624"), ((false, 18446744073709551624), siv_gcm_name, (false, 220)))
    ∷ (combo_is (ascii "\"SIV_CTRMAC\""), ((false, 8), siv_ctrmac_name, (false, 220)))
    ∷ (combo_is (ascii "\"siv_gcm\""), ((false, 8), ascii "siv_gcm", (false, 220)))
    ∷ (threshold_is (ascii "35"), ((false, 8), siv_gcm_name, (false, 35)))
    ∷ (threshold_is (ascii "-100"), ((false, 8), siv_gcm_name, (true, 100)))
    ∷ (more_members (ascii "\"alg\":1,\"alg\":\"none\""), usual)
    ∷ (more_members (ascii "\"x\":[[[[[[[[]]]]]]]]"), usual)
    ∷ (more_members (ascii "\"x\":{\"a\":{\"a\":{\"a\":{\"a\":{\"a\":{\"a\":{\"a\":{\"format\":9}}}}}}}}"), usual)
    ∷ (more_members (ascii "\"\\ud800\":-1.5E+3,\"\":\"\\udfff\""), usual)
    ∷ []

-- No text and no object; something behind the object; a member missing, in another case, or twice, also by an escape; a required value of the wrong kind;
-- unknown members of nine levels, or that break the grammar.
abbrev pub no_payloads : List (List ℕ)
no_payloads =
    []
    ∷ ascii "[]"
    ∷ ascii "\"x\""
    ∷ ascii "{}"
    ∷ (format_is (ascii "8") ++ ascii "x")
    ∷ (format_is (ascii "8") ++ format_is (ascii "8"))
    ∷ ascii "{\"cipherCombo\":\"SIV_GCM\",\"shorteningThreshold\":220}"
    ∷ ascii "{\"format\":8,\"shorteningThreshold\":220}"
    ∷ ascii "{\"format\":8,\"cipherCombo\":\"SIV_GCM\"}"
    ∷ ascii "{\"format\":8,\"ciphercombo\":\"SIV_GCM\",\"shorteningThreshold\":220}"
    ∷ more_members (ascii "\"format\":8")
    ∷ more_members (ascii "\"f\\u006frmat\":8")
    ∷ more_members (ascii "\"cipherCombo\":null")
    ∷ more_members (ascii "\"shorteningThreshold\":[]")
    ∷ format_is (ascii "8.0")
    ∷ format_is (ascii "8e0")
    ∷ format_is (ascii "08")
    ∷ format_is (ascii "+8")
    ∷ format_is (ascii "\"8\"")
    ∷ format_is (ascii "true")
    ∷ format_is (ascii "null")
    ∷ format_is (ascii "[8]")
    ∷ format_is (ascii "{}")
    ∷ combo_is (ascii "1")
    ∷ combo_is (ascii "null")
    ∷ combo_is (ascii "[\"SIV_GCM\"]")
    ∷ threshold_is (ascii "220.0")
    ∷ threshold_is (ascii "22e1")
    ∷ threshold_is (ascii "\"220\"")
    ∷ threshold_is (ascii "false")
    ∷ more_members (ascii "\"x\":[[[[[[[[[]]]]]]]]]")
    ∷ more_members (ascii "\"x\":{\"a\":{\"a\":{\"a\":{\"a\":{\"a\":{\"a\":{\"a\":{\"a\":{\"a\":0}}}}}}}}}")
    ∷ more_members (ascii "\"x\":01")
    ∷ more_members (ascii "\"x\":\"\\x41\"")
    ∷ more_members (be 6 0x2278223a2280 ++ ascii "\"")
    ∷ []

-- ---- labels

-- A label like the stock program's, under the key 00 01 .. 3f: what is signed, and the signature, which OpenSSL worked out.
abbrev pub distinct_signed : List ℕ
distinct_signed = ascii "eyJraWQiOiJtYXN0ZXJrZXlmaWxlOm1hc3RlcmtleS5jcnlwdG9tYXRvciIsInR5cCI6IkpXVCIsImFsZyI6IkhTMjU2In0.eyJqdGkiOiIwZjhmYWQ1Yi1kOWNiLTQ2OWYtYTE2NS03MDg2NzcyODk1MGUiLCJmb3JtYXQiOjgsImNpcGhlckNvbWJvIjoiU0lWX0dDTSIsInNob3J0ZW5pbmdUaHJlc2hvbGQiOjIyMH0"

abbrev pub distinct_signature : List ℕ
distinct_signature = be 32 0x272b7d6e25997bf18a127e0cee3972a2ec1dc0fd74dd38a02a2fdf17da89facb

abbrev pub distinct_label : List ℕ
distinct_label = distinct_signed ++ ascii ".Jyt9biWZe_GKEn4M7jlyouwdwP103TigKi_fF9qJ-ss"

-- alg HS256, format 8, SIV_GCM and 220, with this signed and this signature.
abbrev pub usual_with : List ℕ → List ℕ → Reading
usual_with signed signature =
    record { alg = hs256; format = (false, 8); combo = siv_gcm_name; threshold = (false, 220); signed = signed; signature = signature }

-- A header of alg alone, a payload of three members, and both as they are signed.
abbrev pub short_header : List ℕ
short_header = ascii "eyJhbGciOiJIUzI1NiJ9"

abbrev pub short_payload : List ℕ
short_payload = ascii "eyJmb3JtYXQiOjgsImNpcGhlckNvbWJvIjoiU0lWX0dDTSIsInNob3J0ZW5pbmdUaHJlc2hvbGQiOjIyMH0"

abbrev pub short_signed : List ℕ
short_signed = short_header ++ ascii "." ++ short_payload

-- A label like the stock program's; signatures of none, one and two bytes; 4,096 bytes, by a long signature.
abbrev pub labels : List (List ℕ × Reading)
labels =
    (distinct_label, usual_with distinct_signed distinct_signature)
    ∷ (short_signed ++ ascii ".", usual_with short_signed [])
    ∷ (short_signed ++ ascii ".fQ", usual_with short_signed (0x7d ∷ []))
    ∷ (short_signed ++ ascii ".-_8", usual_with short_signed (0xfb ∷ 0xff ∷ []))
    ∷ (short_signed ++ ascii "." ++ replicate 3991 0x41, usual_with short_signed (replicate 2993 0))
    ∷ []

-- Other numbers of dots; empty segments for the header or the payload; header and payload exchanged; no object; padding; one character too many; pad bits
-- that are not zero, in each segment; characters of the other alphabet of base64, and others; 4,097 bytes.
abbrev pub no_labels : List (List ℕ)
no_labels =
    []
    ∷ ascii "."
    ∷ ascii ".."
    ∷ short_signed
    ∷ (short_signed ++ ascii ".fQ.")
    ∷ (ascii "." ++ short_signed ++ ascii ".fQ")
    ∷ (ascii "." ++ short_payload ++ ascii ".fQ")
    ∷ (short_header ++ ascii "..fQ")
    ∷ (short_payload ++ ascii "." ++ short_header ++ ascii ".fQ")
    ∷ (ascii "W10." ++ short_payload ++ ascii ".fQ")
    ∷ (short_header ++ ascii ".W10.fQ")
    ∷ (short_signed ++ ascii ".fQ==")
    ∷ (short_signed ++ ascii ".A")
    ∷ (short_signed ++ ascii ".fR")
    ∷ (ascii "eyJhbGciOiJIUzI1NiIgfR." ++ short_payload ++ ascii ".fQ")
    ∷ (short_header ++ ascii ".eyJmb3JtYXQiOjgsImNpcGhlckNvbWJvIjoiU0lWX0dDTSIsInNob3J0ZW5pbmdUaHJlc2hvbGQiOjIyMH1.fQ")
    ∷ (short_signed ++ ascii ".+/8")
    ∷ (short_signed ++ ascii ".fQ\n")
    ∷ (ascii " " ++ short_signed ++ ascii ".fQ")
    ∷ (short_signed ++ ascii "." ++ replicate 3992 0x41)
    ∷ []

-- Rows before the signature: a raw key of another size, also with a label that cannot be read; such a label; one with another algorithm, and neither format
-- 8 nor a combo nor a threshold.
abbrev pub FirstRows : Type 0
FirstRows =
    (open_label [] [] ≡ refused 1)
    × (open_label (replicate 63 0) distinct_label ≡ refused 1)
    × (open_label (replicate 65 0) distinct_label ≡ refused 1)
    × (open_label (replicate 64 0) [] ≡ refused 13)
    × (open_label (replicate 64 0) (ascii "eyJhbGciOiJub25lIn0.W10.") ≡ refused 13)
    × (open_label (replicate 64 0) (ascii "eyJhbGciOiJub25lIn0.eyJmb3JtYXQiOjksImNpcGhlckNvbWJvIjoiIiwic2hvcnRlbmluZ1RocmVzaG9sZCI6MH0.") ≡ refused 14)

-- Under a key of zeros each label gives row 13, with the place beside it or without one.
abbrev pub Row13 : List (List ℕ × Option ℕ) → Type 0
Row13 [] = Unit {0}
Row13 (p ∷ texts) = (open_label (replicate 64 0) p.0 ≡ row13 p.1) × Row13 texts

-- Characters outside the alphabet, padding among them, in each segment; one character too few, behind pad bits that are not zero too, so that only more characters could help;
-- two broken segments, of which the first counts, also before a fault of JSON. Other numbers of dots, and 4,097 bytes, before any segment; and faults of JSON alone.
abbrev pub places : List (List ℕ × Option ℕ)
places =
    (ascii " " ++ short_signed ++ ascii ".fQ", some 0)
    ∷ (ascii "eyJhbGciOiJIUzI1NiIgfR." ++ short_payload ++ ascii ".fQ", some 22)
    ∷ (short_header ++ ascii ".fQ==.fQ", some 23)
    ∷ (short_signed ++ ascii ".fQA+", some 108)
    ∷ (short_signed ++ ascii ".A", some 106)
    ∷ (ascii "W10." ++ ascii "A.+", some 5)
    ∷ (ascii "A.+.fQ", some 1)
    ∷ (ascii "W10.W10.+", some 8)
    ∷ (ascii "+.+", none)
    ∷ (ascii "+.+.+.+", none)
    ∷ (ascii "+.+." ++ replicate 4093 0x41, none)
    ∷ (short_header ++ ascii ".W10.fQ", none)
    ∷ []

abbrev pub Examples : Type 0
Examples =
    Gives alg_of headers
    × GivesNone alg_of no_headers
    × Gives payload_of payloads
    × GivesNone payload_of no_payloads
    × Gives reading labels
    × GivesNone reading no_labels
    × FirstRows
    × Row13 places
