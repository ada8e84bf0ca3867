-- RFC 4648, section 10, worked out from the definitions: "", "f", "fo", .. "foobar" in base64url, padded and not, and "fooba" in
-- base32. Then the two letters in which base64url differs from base64, texts that are refused, and places of
-- broken ones.
-- Assumes nothing.
use Prim.Native.Nat.{ℕ}
use mathlib.Core.Bool.{Bool, true, false}
use mathlib.Core.List.{List, []}
use mathlib.Core.Path.{◌≡◌, refl}
use Rattle.octets.specs.BigEndian.{be}
use Rattle.encoding.specs.Base64url as base64url
use Rattle.encoding.specs.Base32 as base32
use Rattle.encoding.specs.Broken.{fewest_bytes, pad_fits, fits, stop_from, stop, broken_at}

-- b is encoded to t, which is accepted, and decodes to b.
abbrev Encodes : Bool → List ℕ → List ℕ → Type 0
Encodes p b t = (base64url.encode p b ≡ t) × (base64url.accepted p t ≡ true) × (base64url.decoded p t ≡ b)

abbrev Refuses : Bool → List ℕ → Type 0
Refuses p t = base64url.accepted p t ≡ false

-- "", "Zg==", "Zm8=", "Zm9v", "Zm9vYg==", "Zm9vYmE=" and "Zm9vYmFy".
padded :
    Encodes true [] []
    × Encodes true (be 1 0x66) (be 4 0x5a673d3d)
    × Encodes true (be 2 0x666f) (be 4 0x5a6d383d)
    × Encodes true (be 3 0x666f6f) (be 4 0x5a6d3976)
    × Encodes true (be 4 0x666f6f62) (be 8 0x5a6d397659673d3d)
    × Encodes true (be 5 0x666f6f6261) (be 8 0x5a6d3976596d453d)
    × Encodes true (be 6 0x666f6f626172) (be 8 0x5a6d3976596d4679)
unfolding be base64url.sextets base64url.octets base64url.canonical base64url.alphabet base64url.letter base64url.place base64url.value base64url.known base64url.pad base64url.pad_length base64url.body base64url.whole base64url.encode base64url.accepted base64url.decoded
padded = ((refl, refl, refl), (refl, refl, refl), (refl, refl, refl), (refl, refl, refl), (refl, refl, refl), (refl, refl, refl), (refl, refl, refl))

-- "", "Zg", "Zm8", "Zm9v", "Zm9vYg", "Zm9vYmE" and "Zm9vYmFy".
unpadded :
    Encodes false [] []
    × Encodes false (be 1 0x66) (be 2 0x5a67)
    × Encodes false (be 2 0x666f) (be 3 0x5a6d38)
    × Encodes false (be 3 0x666f6f) (be 4 0x5a6d3976)
    × Encodes false (be 4 0x666f6f62) (be 6 0x5a6d39765967)
    × Encodes false (be 5 0x666f6f6261) (be 7 0x5a6d3976596d45)
    × Encodes false (be 6 0x666f6f626172) (be 8 0x5a6d3976596d4679)
unfolding be base64url.sextets base64url.octets base64url.canonical base64url.alphabet base64url.letter base64url.place base64url.value base64url.known base64url.pad base64url.pad_length base64url.body base64url.whole base64url.encode base64url.accepted base64url.decoded
unpadded = ((refl, refl, refl), (refl, refl, refl), (refl, refl, refl), (refl, refl, refl), (refl, refl, refl), (refl, refl, refl), (refl, refl, refl))

-- "--__".
url_letters :
    Encodes true (be 3 0xfbefff) (be 4 0x2d2d5f5f)
    × Encodes false (be 3 0xfbefff) (be 4 0x2d2d5f5f)
unfolding be base64url.sextets base64url.octets base64url.canonical base64url.alphabet base64url.letter base64url.place base64url.value base64url.known base64url.pad base64url.pad_length base64url.body base64url.whole base64url.encode base64url.accepted base64url.decoded
url_letters = ((refl, refl, refl), (refl, refl, refl))

-- Padding that is missing or stands in the middle, spare bits that are not zero, a character alone, no alphabet: "Zg", "Zg=", "Zh==",
-- "Zm9=", "Zg==Zg==", "Zg=a", "Z===", "====", "Zm9+", "Zm9/" and, without padding, "Z", "Zh", "Zm9", "Zg==", "Zm9vZ".
refused :
    Refuses true (be 2 0x5a67)
    × Refuses true (be 3 0x5a673d)
    × Refuses true (be 4 0x5a683d3d)
    × Refuses true (be 4 0x5a6d393d)
    × Refuses true (be 8 0x5a673d3d5a673d3d)
    × Refuses true (be 4 0x5a673d61)
    × Refuses true (be 4 0x5a3d3d3d)
    × Refuses true (be 4 0x3d3d3d3d)
    × Refuses true (be 4 0x5a6d392b)
    × Refuses true (be 4 0x5a6d392f)
    × Refuses false (be 1 0x5a)
    × Refuses false (be 2 0x5a68)
    × Refuses false (be 3 0x5a6d39)
    × Refuses false (be 4 0x5a673d3d)
    × Refuses false (be 5 0x5a6d39765a)
unfolding be base64url.sextets base64url.octets base64url.canonical base64url.alphabet base64url.letter base64url.place base64url.value base64url.known base64url.pad base64url.pad_length base64url.body base64url.whole base64url.encode base64url.accepted base64url.decoded
refused = (refl, refl, refl, refl, refl, refl, refl, refl, refl, refl, refl, refl, refl, refl, refl)

-- "MZXW6YTB".
base32_fooba : base32.encode (be 5 0x666f6f6261) ≡ be 8 0x4d5a585736595442
unfolding be base32.quintets base32.alphabet base32.letter base32.encode
base32_fooba = refl

-- ---- places

-- The text is refused, and its place is q.
abbrev Breaks : Bool → List ℕ → ℕ → Type 0
Breaks p t q = (base64url.accepted p t ≡ false) × (broken_at p t ≡ q)

-- "Zg", "Zg=", "Zh==", "Zm9=", "Zg==Zg==", "Zg=a", "Z===", "====", "Zm9+", "Z", "Zm9v=".
places-padded :
    Breaks true (be 2 0x5a67) 2
    × Breaks true (be 3 0x5a673d) 3
    × Breaks true (be 4 0x5a683d3d) 2
    × Breaks true (be 4 0x5a6d393d) 3
    × Breaks true (be 8 0x5a673d3d5a673d3d) 4
    × Breaks true (be 4 0x5a673d61) 3
    × Breaks true (be 4 0x5a3d3d3d) 1
    × Breaks true (be 4 0x3d3d3d3d) 0
    × Breaks true (be 4 0x5a6d392b) 3
    × Breaks true (be 1 0x5a) 1
    × Breaks true (be 5 0x5a6d39763d) 4
unfolding be base64url.canonical base64url.alphabet base64url.place base64url.value base64url.known base64url.pad_length base64url.body base64url.whole base64url.accepted fewest_bytes pad_fits fits stop_from stop broken_at
places-padded = ((refl, refl), (refl, refl), (refl, refl), (refl, refl), (refl, refl), (refl, refl), (refl, refl), (refl, refl), (refl, refl), (refl, refl), (refl, refl))

-- "Z", "Zh", "Zm9", "Zg==", "Zm9vZ", "Zm9v.", "+".
places_unpadded :
    Breaks false (be 1 0x5a) 1
    × Breaks false (be 2 0x5a68) 2
    × Breaks false (be 3 0x5a6d39) 3
    × Breaks false (be 4 0x5a673d3d) 2
    × Breaks false (be 5 0x5a6d39765a) 5
    × Breaks false (be 5 0x5a6d39762e) 4
    × Breaks false (be 1 0x2b) 0
unfolding be base64url.canonical base64url.alphabet base64url.place base64url.value base64url.known base64url.pad_length base64url.body base64url.whole base64url.accepted fewest_bytes pad_fits fits stop_from stop broken_at
places_unpadded = ((refl, refl), (refl, refl), (refl, refl), (refl, refl), (refl, refl), (refl, refl), (refl, refl))
