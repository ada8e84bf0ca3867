-- RFC 4648, section 5: base64url, with padding (true) and without (false). Bytes and characters are numbers; a text is the list of
-- its characters.
-- Assumes nothing.
use Rattle.std.specs.Prelude.{ℕ, suc, ◌+◌, ◌-◌, ◌*◌, ◌/◌, ◌%◌, List, [], ◌∷◌, ◌++◌, map, Bool, true, false, cond, ◌&&◌, eqb, ltb, length, get_or, take, replicate}

-- ---- section 4: three bytes are four numbers of six bits

-- The bits that the last number lacks are zero.
unfoldable pub sextets : List ℕ → List ℕ
sextets [] = []
sextets (a ∷ []) = a / 4 ∷ a % 4 * 16 ∷ []
sextets (a ∷ b ∷ []) = a / 4 ∷ (a % 4 * 16 + b / 16) ∷ b % 16 * 4 ∷ []
sextets (a ∷ b ∷ c ∷ s) = a / 4 ∷ (a % 4 * 16 + b / 16) ∷ (b % 16 * 4 + c / 64) ∷ c % 64 ∷ sextets s

-- The bytes of such numbers. Bits at the end that fill no byte, the pad bits, are left out.
unfoldable pub octets : List ℕ → List ℕ
octets [] = []
octets (p ∷ []) = []
octets (p ∷ q ∷ []) = (p * 4 + q / 16) ∷ []
octets (p ∷ q ∷ r ∷ []) = (p * 4 + q / 16) ∷ (q % 16 * 16 + r / 4) ∷ []
octets (p ∷ q ∷ r ∷ s ∷ v) = (p * 4 + q / 16) ∷ (q % 16 * 16 + r / 4) ∷ (r % 4 * 64 + s) ∷ octets v

-- 3.5: the pad bits are zero; the standard lets a decoder refuse others, and this one does. Section 4: no bytes have a last
-- group of one number.
unfoldable pub canonical : List ℕ → Bool
canonical [] = true
canonical (p ∷ []) = false
canonical (p ∷ q ∷ []) = eqb (q % 16) 0
canonical (p ∷ q ∷ r ∷ []) = eqb (r % 4) 0
canonical (p ∷ q ∷ r ∷ s ∷ v) = canonical v

-- ---- section 5, table 2: the alphabet that is safe in URLs and file names

-- A to Z, a to z, 0 to 9, - and _.
unfoldable pub alphabet : List ℕ
alphabet =
    0x41 ∷ 0x42 ∷ 0x43 ∷ 0x44 ∷ 0x45 ∷ 0x46 ∷ 0x47 ∷ 0x48 ∷ 0x49 ∷ 0x4a ∷ 0x4b ∷ 0x4c ∷ 0x4d ∷ 0x4e ∷ 0x4f ∷ 0x50
    ∷ 0x51 ∷ 0x52 ∷ 0x53 ∷ 0x54 ∷ 0x55 ∷ 0x56 ∷ 0x57 ∷ 0x58 ∷ 0x59 ∷ 0x5a ∷ 0x61 ∷ 0x62 ∷ 0x63 ∷ 0x64 ∷ 0x65 ∷ 0x66
    ∷ 0x67 ∷ 0x68 ∷ 0x69 ∷ 0x6a ∷ 0x6b ∷ 0x6c ∷ 0x6d ∷ 0x6e ∷ 0x6f ∷ 0x70 ∷ 0x71 ∷ 0x72 ∷ 0x73 ∷ 0x74 ∷ 0x75 ∷ 0x76
    ∷ 0x77 ∷ 0x78 ∷ 0x79 ∷ 0x7a ∷ 0x30 ∷ 0x31 ∷ 0x32 ∷ 0x33 ∷ 0x34 ∷ 0x35 ∷ 0x36 ∷ 0x37 ∷ 0x38 ∷ 0x39 ∷ 0x2d ∷ 0x5f ∷ []

unfoldable pub letter : ℕ → ℕ
letter v = get_or alphabet v 0

-- The first place of c in a list, or the list's length.
unfoldable pub place : List ℕ → ℕ → ℕ
place [] c = 0
place (x ∷ l) c = cond (eqb x c) 0 (suc (place l c))

-- What a character stands for, and 64 for one that isn't in the alphabet.
unfoldable pub value : ℕ → ℕ
value c = place alphabet c

-- 3.3: no characters outside the alphabet.
unfoldable pub known : List ℕ → Bool
known [] = true
known (c ∷ t) = ltb (value c) 64 && known t

-- ---- 3.2 and 4: padding

-- '='
abbrev pub pad_character : ℕ
pad_character = 0x3d

-- Filled up to a multiple of four characters.
unfoldable pub pad : Bool → List ℕ → List ℕ
pad true t = t ++ replicate ((4 - length t % 4) % 4) pad_character
pad false t = t

-- Of a text with a multiple of four characters: how many at its end are padding, two at most.
unfoldable pub pad_length : Bool → List ℕ → ℕ
pad_length true t = cond (eqb (get_or t (length t - 1) 0) pad_character) (cond (eqb (get_or t (length t - 2) 0) pad_character) 2 1) 0
pad_length false t = 0

-- The characters before the padding.
unfoldable pub body : Bool → List ℕ → List ℕ
body p t = take (length t - pad_length p t) t

-- A padded text has a multiple of four characters.
unfoldable pub whole : Bool → List ℕ → Bool
whole true t = eqb (length t % 4) 0
whole false t = true

-- ---- the encoder and the decoder

unfoldable pub encode : Bool → List ℕ → List ℕ
encode p b = pad p (map letter (sextets b))

-- Does the text keep the rules of 3.2, 3.3, 3.5 and 4?
unfoldable pub accepted : Bool → List ℕ → Bool
accepted p t = whole p t && known (body p t) && canonical (map value (body p t))

-- The bytes that an accepted text stands for.
unfoldable pub decoded : Bool → List ℕ → List ℕ
decoded p t = octets (map value (body p t))

-- How many characters n bytes are encoded to.
unfoldable pub encoded_length : Bool → ℕ → ℕ
encoded_length true n = (n + 2) / 3 * 4
encoded_length false n = (n * 4 + 2) / 3
