-- RFC 3629: well-formed UTF-8, by the grammar of section 4, and the encoding of scalar values, by the table of section 3. Texts are
-- byte strings.
-- Assumes nothing.
use Rattle.std.specs.Prelude.{◌≡◌, ℕ, ◌+◌, ◌/◌, ◌%◌, ◌≤◌, Bool, true, ◌&&◌, ◌||◌, cond, List, [], ◌∷◌, ◌++◌, leb}

-- ---- section 4

-- The grammar's %xLO-HI: a byte from lo to hi.
abbrev pub within : ℕ → ℕ → ℕ → Bool
within lo hi a = leb lo a && leb a hi

-- UTF8-tail
abbrev pub tail : ℕ → Bool
tail a = within 0x80 0xbf a

-- UTF8-1
unfoldable pub utf8_1 : ℕ → Bool
utf8_1 a = within 0x00 0x7f a

-- UTF8-2
unfoldable pub utf8_2 : ℕ → ℕ → Bool
utf8_2 a b = within 0xc2 0xdf a && tail b

-- UTF8-3
unfoldable pub utf8_3 : ℕ → ℕ → ℕ → Bool
utf8_3 a b c =
    (within 0xe0 0xe0 a && within 0xa0 0xbf b && tail c)
    || (within 0xe1 0xec a && tail b && tail c)
    || (within 0xed 0xed a && within 0x80 0x9f b && tail c)
    || (within 0xee 0xef a && tail b && tail c)

-- UTF8-4
unfoldable pub utf8_4 : ℕ → ℕ → ℕ → ℕ → Bool
utf8_4 a b c d =
    (within 0xf0 0xf0 a && within 0x90 0xbf b && tail c && tail d)
    || (within 0xf1 0xf3 a && tail b && tail c && tail d)
    || (within 0xf4 0xf4 a && within 0x80 0x8f b && tail c && tail d)

-- UTF8-octets: any number of UTF8-char, each of which is UTF8-1, UTF8-2, UTF8-3 or UTF8-4.
unfoldable pub well_formed : List ℕ → Bool
well_formed [] = true
well_formed (a ∷ []) = utf8_1 a
well_formed (a ∷ b ∷ []) = (utf8_1 a && well_formed (b ∷ [])) || utf8_2 a b
well_formed (a ∷ b ∷ c ∷ []) = (utf8_1 a && well_formed (b ∷ c ∷ [])) || (utf8_2 a b && well_formed (c ∷ [])) || utf8_3 a b c
well_formed (a ∷ b ∷ c ∷ d ∷ s) =
    (utf8_1 a && well_formed (b ∷ c ∷ d ∷ s))
    || (utf8_2 a b && well_formed (c ∷ d ∷ s))
    || (utf8_3 a b c && well_formed (d ∷ s))
    || (utf8_4 a b c d && well_formed s)

-- ---- section 3

-- A scalar value: a character number from 0 to 10FFFF, but none of D800 to DFFF, the surrogates of UTF-16.
abbrev pub Scalar : ℕ → Type 0
Scalar c = (c ≤ 0x10ffff) × (0xd800 ≤ c → c ≤ 0xdfff → ⊥)

-- Each number of the list is one.
abbrev pub Scalars : List ℕ → Type 0
Scalars [] = Unit {0}
Scalars (c ∷ cs) = Scalar c × Scalars cs

-- The octets of a scalar value, by the first row of the table whose range holds it. The bits of the number stand in order behind the marks 110,
-- 1110 and 11110 of a first octet (C0, E0, F0), and six of them behind the mark 10 (80) of each further one; 64, 4096 and 262144 are 2 to the 6, 12
-- and 18. Past 10FFFF it is not the table's.
unfoldable pub encode : ℕ → List ℕ
encode c =
    cond (leb c 0x7f) (c ∷ [])
    (cond (leb c 0x7ff) ((0xc0 + c / 64) ∷ (0x80 + c % 64) ∷ [])
    (cond (leb c 0xffff) ((0xe0 + c / 4096) ∷ (0x80 + c / 64 % 64) ∷ (0x80 + c % 64) ∷ [])
    ((0xf0 + c / 262144) ∷ (0x80 + c / 4096 % 64) ∷ (0x80 + c / 64 % 64) ∷ (0x80 + c % 64) ∷ [])))

-- The octets of a list of scalar values, one behind the other.
unfoldable pub encoded : List ℕ → List ℕ
encoded [] = []
encoded (c ∷ cs) = encode c ++ encoded cs

-- s is the encoding of some list of scalar values.
abbrev pub Encoding : List ℕ → Type 0
Encoding s = (cs : List ℕ) × Scalars cs × (encoded cs ≡ s)
