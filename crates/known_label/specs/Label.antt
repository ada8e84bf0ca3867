-- Labels as they are to open by the definitions, or to be refused: values of our own, worked out with OpenSSL.
-- Assumes nothing.
use Rattle.std.specs.Prelude.{ℕ, List, [], ◌∷◌, ◌++◌, ◌≡◌}
use Rattle.octets.specs.BigEndian.{be}
use Rattle.octets.specs.Rows.{done, refused}
use Rattle.json_grammar.specs.Quoted.{ascii}
use Rattle.label_spec.specs.Label.{open_label}
use Rattle.label_spec.specs.Examples.{distinct_signed, distinct_label, short_header}

-- The raw key 00, 01, .. 3f; and the one whose halves are exchanged.
abbrev pub raw_key : List ℕ
raw_key = be 64 0x000102030405060708090a0b0c0d0e0f101112131415161718191a1b1c1d1e1f202122232425262728292a2b2c2d2e2f303132333435363738393a3b3c3d3e3f

abbrev pub exchanged_key : List ℕ
exchanged_key = be 64 0x202122232425262728292a2b2c2d2e2f303132333435363738393a3b3c3d3e3f000102030405060708090a0b0c0d0e0f101112131415161718191a1b1c1d1e1f

-- A label like the stock program's opens to SIV_GCM and 220.
abbrev pub DistinctLabel : Type 0
DistinctLabel = open_label raw_key distinct_label ≡ done (1 ∷ 220 ∷ [])

-- With no signature; with a byte 0 behind it; and under the other key.
abbrev pub NoSignature : Type 0
NoSignature = open_label raw_key (distinct_signed ++ ascii ".") ≡ refused 15

abbrev pub LongSignature : Type 0
LongSignature = open_label raw_key (distinct_label ++ ascii "A") ≡ refused 15

abbrev pub ExchangedKey : Type 0
ExchangedKey = open_label exchanged_key distinct_label ≡ refused 15

-- SIV_CTRMAC and 36.
abbrev pub LeastThreshold : Type 0
LeastThreshold =
    open_label raw_key (short_header ++ ascii ".eyJmb3JtYXQiOjgsImNpcGhlckNvbWJvIjoiU0lWX0NUUk1BQyIsInNob3J0ZW5pbmdUaHJlc2hvbGQiOjM2fQ.LuUDoBg-JKdn7FkUWo_PkKNBbwlRQXzKiwlS1UIVxVE")
    ≡ done (2 ∷ 36 ∷ [])

-- Format 9, the combo SIV_CBC and 35; the same with format 8; 35 alone; and 221 alone.
abbrev pub FormatNine : Type 0
FormatNine =
    open_label raw_key (short_header ++ ascii ".eyJmb3JtYXQiOjksImNpcGhlckNvbWJvIjoiU0lWX0NCQyIsInNob3J0ZW5pbmdUaHJlc2hvbGQiOjM1fQ.WA21iPRCGrM7efBSpyKRTwG4PqPXooUhbVLxwQ1il0c")
    ≡ refused 16

abbrev pub UnknownCombo : Type 0
UnknownCombo =
    open_label raw_key (short_header ++ ascii ".eyJmb3JtYXQiOjgsImNpcGhlckNvbWJvIjoiU0lWX0NCQyIsInNob3J0ZW5pbmdUaHJlc2hvbGQiOjM1fQ.aHUKFMM9aNtEW5zcEaxMSDOGstjTdQvOuaK2TEGeex0")
    ≡ refused 17

abbrev pub ThresholdTooLow : Type 0
ThresholdTooLow =
    open_label raw_key (short_header ++ ascii ".eyJmb3JtYXQiOjgsImNpcGhlckNvbWJvIjoiU0lWX0dDTSIsInNob3J0ZW5pbmdUaHJlc2hvbGQiOjM1fQ.vtrfWcH9xTjBe9cjmL_ZXwmeH-GGiJ-83aZgIV3JCtk")
    ≡ refused 18

abbrev pub ThresholdTooHigh : Type 0
ThresholdTooHigh =
    open_label raw_key (short_header ++ ascii ".eyJmb3JtYXQiOjgsImNpcGhlckNvbWJvIjoiU0lWX0dDTSIsInNob3J0ZW5pbmdUaHJlc2hvbGQiOjIyMX0.0VbBHBvKEc0DbYWWe-gTnzETwh55xrAPpFYSrPX-qNI")
    ≡ refused 18

-- Format 9 with no signature.
abbrev pub SignatureFirst : Type 0
SignatureFirst =
    open_label raw_key (short_header ++ ascii ".eyJmb3JtYXQiOjksImNpcGhlckNvbWJvIjoiU0lWX0NCQyIsInNob3J0ZW5pbmdUaHJlc2hvbGQiOjM1fQ.")
    ≡ refused 15

-- Format -8; and the threshold -220.
abbrev pub NegativeFormat : Type 0
NegativeFormat =
    open_label raw_key (short_header ++ ascii ".eyJmb3JtYXQiOi04LCJjaXBoZXJDb21ibyI6IlNJVl9HQ00iLCJzaG9ydGVuaW5nVGhyZXNob2xkIjoyMjB9.Rn_LHgR_hZyHGVyBZ_WNOLevxTt2lPqFL6XGzKqoa2c")
    ≡ refused 16

abbrev pub NegativeThreshold : Type 0
NegativeThreshold =
    open_label raw_key (short_header ++ ascii ".eyJmb3JtYXQiOjgsImNpcGhlckNvbWJvIjoiU0lWX0dDTSIsInNob3J0ZW5pbmdUaHJlc2hvbGQiOi0yMjB9.7H_sWi5OITv8gwx_S6WsvBiwMcd_a0MsueQ69qmUQiw")
    ≡ refused 18
