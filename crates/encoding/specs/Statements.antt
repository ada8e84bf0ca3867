-- What the encodings promise. `proofs/Laws.antt` proves each under its name, `proofs/Places.antt` those of places, and `proofs/Quintets.antt` that of base32.
-- Assumes nothing.
use Rattle.std.specs.Prelude.{ℕ, ◌-◌, ◌*◌, ◌/◌, ◌≤◌, ◌≡◌, Bool, true, false, ◌↔◌, List, length, Ok, Err}
use Rattle.octets.specs.Bytes.{Bytes}
use Rattle.encoding.specs.Base64url as base64url
use Rattle.encoding.specs.Base32 as base32
use Rattle.encoding.specs.Measures.{measure_of, broken}
use Rattle.encoding.specs.Places.{Place}
use Rattle.encoding.specs.Broken.{within, stop}

-- What was encoded is accepted, and decodes to what went in.
abbrev pub EncodedDecodes : Type 0
EncodedDecodes = (p : Bool) (b : List ℕ) → Bytes b → (base64url.accepted p (base64url.encode p b) ≡ true) × (base64url.decoded p (base64url.encode p b) ≡ b)

-- What is accepted is the encoding of what it decodes to, which is a byte string.
abbrev pub DecodedWasEncoded : Type 0
DecodedWasEncoded = (p : Bool) (t : List ℕ) → base64url.accepted p t ≡ true → (t ≡ base64url.encode p (base64url.decoded p t)) × Bytes (base64url.decoded p t)

-- The length of an encoding, and of what a text decodes to.
abbrev pub EncodedLength : Type 0
EncodedLength = (p : Bool) (b : List ℕ) → length (base64url.encode p b) ≡ base64url.encoded_length p (length b)

abbrev pub DecodedLength : Type 0
DecodedLength = (p : Bool) (t : List ℕ) → length (base64url.decoded p t) ≡ (length t - base64url.pad_length p t) * 3 / 4

-- A text is measured exactly if it is accepted, and its measure is the length of what it decodes to.
abbrev pub AcceptedIsMeasured : Type 0
AcceptedIsMeasured = (p : Bool) (t : List ℕ) → base64url.accepted p t ≡ true → measure_of p t ≡ Ok (length (base64url.decoded p t))

abbrev pub MeasuredIsAccepted : Type 0
MeasuredIsAccepted = (p : Bool) (t : List ℕ) (n : ℕ) → measure_of p t ≡ Ok n → (base64url.accepted p t ≡ true) × (length (base64url.decoded p t) ≡ n)

-- A well-formed text: that of some bytes.
abbrev pub Encoded : Bool → List ℕ → Type 0
Encoded p t = (b : List ℕ) × Bytes b × (base64url.encode p b ≡ t)

-- A broken text has one place at most, whichever texts are well formed.
abbrev pub OnePlace : Type 1
OnePlace = (Right : List ℕ → Type 0) (t : List ℕ) (m n : ℕ) → Place Right t m → Place Right t n → m ≡ n

-- With padding and without, under any limits that allow the least number of bytes and, with a number, all fewer: the walk stops at the place of each broken text.
abbrev pub StopsAtPlace : Type 0
StopsAtPlace =
    (p : Bool) (least : ℕ) (allows : ℕ → Bool) → allows least ≡ true → ((m n : ℕ) → m ≤ n → allows n ≡ true → allows m ≡ true)
    → (t : List ℕ) → within p least allows t ≡ false → Place (λ u. within p least allows u ≡ true) t (stop p least allows t)

-- With padding and without: the check refuses a text with the place q exactly when it is broken there.
abbrev pub RefusedAtPlace : Type 0
RefusedAtPlace = (p : Bool) (t : List ℕ) (q : ℕ) → (measure_of p t ≡ Err (broken q)) ↔ Place (Encoded p) t q

-- Base32: eight characters for five bytes.
abbrev pub Base32Length : Type 0
Base32Length = (b : List ℕ) → length (base32.encode b) ≡ length b / 5 * 8
