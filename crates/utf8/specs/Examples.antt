-- Texts and what is said of them: the examples of RFC 3629, and the first and the last character of each range of its grammar, with what stands
-- beside them. `proofs/` works each out.
-- Assumes nothing.
use Rattle.std.specs.Prelude.{◌≡◌, Bool, true, false, List, [], ◌∷◌, ℕ}
use Rattle.octets.specs.BigEndian.{be}
use Rattle.utf8.specs.Utf8.{encoded}
use Rattle.utf8.specs.ProperText.{proper_text}

-- Section 7: "A", not identical to, alpha, "."; "hangugeo"; "nihongo"; the byte order mark and a character past FFFF.
abbrev pub RfcTexts : Type 0
RfcTexts =
    (encoded (0x41 ∷ 0x2262 ∷ 0x391 ∷ 0x2e ∷ []) ≡ be 7 0x41e289a2ce912e)
    × (encoded (0xd55c ∷ 0xad6d ∷ 0xc5b4 ∷ []) ≡ be 9 0xed959ceab5adec96b4)
    × (encoded (0x65e5 ∷ 0x672c ∷ 0x8a9e ∷ []) ≡ be 9 0xe697a5e69cace8aa9e)
    × (encoded (0xfeff ∷ 0x233b4 ∷ []) ≡ be 7 0xefbbbff0a38eb4)

-- The test gives this answer on each of the texts.
abbrev pub Tells : Bool → List (List ℕ) → Type 0
Tells answer [] = Unit {0}
Tells answer (s ∷ texts) = (proper_text s ≡ answer) × Tells answer texts

-- The texts of section 7, and the first and the last character of each range.
abbrev pub proper_texts : List (List ℕ)
proper_texts =
    be 7 0x41e289a2ce912e
    ∷ be 9 0xed959ceab5adec96b4
    ∷ be 9 0xe697a5e69cace8aa9e
    ∷ be 7 0xefbbbff0a38eb4
    ∷ be 4 0x012e307f
    ∷ be 4 0xc280dfbf
    ∷ be 6 0xe0a080e0bfbf
    ∷ be 6 0xe18080ecbfbf
    ∷ be 6 0xed8080ed9fbf
    ∷ be 6 0xee8080efbfbf
    ∷ be 8 0xf0908080f0bfbfbf
    ∷ be 8 0xf1808080f3bfbfbf
    ∷ be 8 0xf4808080f48fbfbf
    ∷ []

-- What the RFC warns of: the overlong C0 80 for the character 0, surrogates ED A1 8C ED BE B4, and 2F C0 AE 2E 2F.
abbrev pub rfc_warnings : List (List ℕ)
rfc_warnings =
    be 2 0xc080
    ∷ be 6 0xeda18cedbeb4
    ∷ be 5 0x2fc0ae2e2f
    ∷ []

-- One more than the last or one less than the first of each range: no first byte, overlong, a surrogate, past 10FFFF; then a tail
-- that is none, and each kind of character cut.
abbrev pub broken_texts : List (List ℕ)
broken_texts =
    be 1 0x80
    ∷ be 1 0xbf
    ∷ be 2 0xc1bf
    ∷ be 3 0xe09fbf
    ∷ be 3 0xeda080
    ∷ be 3 0xedbfbf
    ∷ be 4 0xf08fbfbf
    ∷ be 4 0xf4908080
    ∷ be 4 0xf5808080
    ∷ be 1 0xff
    ∷ be 2 0xc27f
    ∷ be 2 0xdfc0
    ∷ be 3 0xe1807f
    ∷ be 3 0xeebfc0
    ∷ be 4 0xf180807f
    ∷ be 4 0xf3bfbfc0
    ∷ be 1 0xc2
    ∷ be 2 0xe289
    ∷ be 3 0xf09f98
    ∷ []

-- 0 and '/' as the first, a middle and the last byte.
abbrev pub zeros_and_slashes : List (List ℕ)
zeros_and_slashes =
    be 1 0x00
    ∷ be 1 0x2f
    ∷ be 3 0x006162
    ∷ be 3 0x610062
    ∷ be 3 0x616200
    ∷ be 3 0x2f6162
    ∷ be 3 0x612f62
    ∷ be 3 0x61622f
    ∷ []

abbrev pub Examples : Type 0
Examples = RfcTexts × Tells true proper_texts × Tells false rfc_warnings × Tells false broken_texts × Tells false zeros_and_slashes
