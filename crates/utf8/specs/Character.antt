-- The first character of a text in UTF-8, RFC 3629: for a reader that asks for its number.
-- Assumes nothing.
use Rattle.std.specs.Prelude.{ℕ, ◌+◌, ◌-◌, ◌*◌, cond, List, [], ◌∷◌, leb, take, drop, get_or}
use Rattle.std.proofs.Math.Option.{Option, none, some}
use Rattle.utf8.specs.Utf8.{well_formed}

-- The first octet of a text.
abbrev pub lead : List ℕ → ℕ
lead s = get_or s 0 0

-- The six bits of its octet i, which is a tail.
abbrev pub tail_at : List ℕ → ℕ → ℕ
tail_at s i = get_or s i 0 - 0x80

-- How many octets a character has, by its first one: the table of section 3.
unfoldable pub size : List ℕ → ℕ
size s = cond (leb (lead s) 0x7f) 1 (cond (leb (lead s) 0xdf) 2 (cond (leb (lead s) 0xef) 3 4))

-- Its number: the bits of its octets in order. 64, 4096 and 262144 are 2 to the 6, 12 and 18.
unfoldable pub number : List ℕ → ℕ
number s =
    cond (leb (lead s) 0x7f) (lead s)
    (cond (leb (lead s) 0xdf) ((lead s - 0xc0) * 64 + tail_at s 1)
    (cond (leb (lead s) 0xef) ((lead s - 0xe0) * 4096 + tail_at s 1 * 64 + tail_at s 2)
    ((lead s - 0xf0) * 262144 + tail_at s 1 * 4096 + tail_at s 2 * 64 + tail_at s 3)))

-- The first character, by its number, and the octets behind it; none where the text does not begin with a character.
unfoldable pub character : List ℕ → Option (ℕ × List ℕ)
character [] = none
character (a ∷ s) = cond (well_formed (take (size (a ∷ s)) (a ∷ s))) (some (number (a ∷ s), drop (size (a ∷ s)) (a ∷ s))) none
