-- What the theorems say of UTF-8 and of proper text. `proofs/` proves each under its name.
-- Assumes nothing.
use Rattle.std.specs.Prelude.{◌≡◌, true, ◌↔◌, ◌⊎◌, List, ◌++◌, ℕ, ◌<◌, ◌≤◌}
use Rattle.std.proofs.Math.Option.{some}
use Rattle.octets.specs.Bytes.{Below, Bytes}
use Rattle.utf8.specs.Utf8.{well_formed, Scalar, Scalars, encode, encoded, Encoding}
use Rattle.utf8.specs.Character.{character}
use Rattle.utf8.specs.ProperText.{proper_text, Lacks, ProperText}

-- A text is well formed exactly when it is the encoding of some list of scalar values.
abbrev pub WellFormedExactly : Type 0
WellFormedExactly = (s : List ℕ) → (well_formed s ≡ true) ↔ Encoding s

-- And it is that of one list only.
abbrev pub EncodedOnce : Type 0
EncodedOnce = (cs ds : List ℕ) → Scalars cs → Scalars ds → encoded cs ≡ encoded ds → cs ≡ ds

-- For every number: its octets are well formed exactly when it is from 0 to D7FF or from E000 to 10FFFF.
abbrev pub EncodeExactly : Type 0
EncodeExactly = (c : ℕ) → (well_formed (encode c) ≡ true) ↔ ((c < 0xd800) ⊎ ((0xe000 ≤ c) × (c ≤ 0x10ffff)))

-- A text begins with a character, and the octets r stand behind it, exactly when it is the encoding of that character and then r.
abbrev pub CharacterExactly : Type 0
CharacterExactly = (c : ℕ) (s r : List ℕ) → (character s ≡ some (c, r)) ↔ (Scalar c × (encode c ++ r ≡ s))

-- An encoding is a byte string.
abbrev pub EncodingBytes : Type 0
EncodingBytes = (s : List ℕ) → Encoding s → Bytes s

-- The test of proper text says what the words do.
abbrev pub ProperTextExactly : Type 0
ProperTextExactly = (s : List ℕ) → (proper_text s ≡ true) ↔ ProperText s

-- Bytes from 1 to 7F other than '/' are proper text, in any order and number.
abbrev pub AsciiText : Type 0
AsciiText = (s : List ℕ) → Below 128 s → Lacks 0x00 s → Lacks 0x2f s → ProperText s

-- No byte is 0 or '/' exactly when no character is: proper text is the encoding of scalar values other than 0 and 2F.
abbrev pub ProperCharacters : Type 0
ProperCharacters = (s : List ℕ) → ProperText s ↔ ((cs : List ℕ) × Scalars cs × Lacks 0x00 cs × Lacks 0x2f cs × (encoded cs ≡ s))
