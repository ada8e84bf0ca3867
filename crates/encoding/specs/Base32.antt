-- RFC 4648, section 6: base32 of whole groups of five bytes, which needs no padding.
-- Assumes nothing.
use Rattle.std.specs.Prelude.{ℕ, ◌+◌, ◌*◌, ◌/◌, ◌%◌, List, [], ◌∷◌, map, get_or}

-- Five bytes are eight numbers of five bits. Bytes at the end that make no group of five are left out.
unfoldable pub quintets : List ℕ → List ℕ
quintets [] = []
quintets (a ∷ []) = []
quintets (a ∷ b ∷ []) = []
quintets (a ∷ b ∷ c ∷ []) = []
quintets (a ∷ b ∷ c ∷ d ∷ []) = []
quintets (a ∷ b ∷ c ∷ d ∷ e ∷ s) =
    a / 8 ∷ (a % 8 * 4 + b / 64) ∷ b / 2 % 32 ∷ (b % 2 * 16 + c / 16) ∷ (c % 16 * 2 + d / 128) ∷ d / 4 % 32 ∷ (d % 4 * 8 + e / 32) ∷ e % 32
    ∷ quintets s

-- Table 3: A to Z, and 2 to 7.
unfoldable pub alphabet : List ℕ
alphabet =
    0x41 ∷ 0x42 ∷ 0x43 ∷ 0x44 ∷ 0x45 ∷ 0x46 ∷ 0x47 ∷ 0x48 ∷ 0x49 ∷ 0x4a ∷ 0x4b ∷ 0x4c ∷ 0x4d ∷ 0x4e ∷ 0x4f ∷ 0x50
    ∷ 0x51 ∷ 0x52 ∷ 0x53 ∷ 0x54 ∷ 0x55 ∷ 0x56 ∷ 0x57 ∷ 0x58 ∷ 0x59 ∷ 0x5a ∷ 0x32 ∷ 0x33 ∷ 0x34 ∷ 0x35 ∷ 0x36 ∷ 0x37 ∷ []

unfoldable pub letter : ℕ → ℕ
letter v = get_or alphabet v 0

-- For a multiple of five bytes this is the standard's encoding.
unfoldable pub encode : List ℕ → List ℕ
encode b = map letter (quintets b)
