-- Where a base64url text goes wrong, worked out: one walk over its characters, for both kinds of padding (p), without a limit and under limits on the bytes
-- that it stands for. `Statements` says that it stops at the place that Places.antt defines.
-- Assumes nothing.
use Rattle.std.specs.Prelude.{ℕ, suc, ◌+◌, ◌*◌, ◌/◌, ◌%◌, Bool, true, cond, ◌&&◌, ◌||◌, not, List, [], ◌∷◌, eqb, ltb, leb, length}
use Rattle.encoding.specs.Base64url.{value, pad_character, accepted, decoded}

-- The fewest bytes that a text can stand for that begins with n characters of the alphabet, of which the last stands for v. RFC 4648,
-- section 4: two characters of a group hold one byte, three hold two. Bits behind these that are not zero belong to one byte more.
unfoldable pub fewest_bytes : ℕ → ℕ → ℕ
fewest_bytes n v =
    n / 4 * 3
    + cond (eqb (n % 4) 0) 0
    (cond (eqb (n % 4) 1) 1
    (cond (eqb (n % 4) 2) (cond (eqb (v % 16) 0) 1 2)
    (cond (eqb (v % 4) 0) 2 3)))

-- May '=' stand at place i, after the character b? As the third of a group, where the pad bits of b are zero: then the text stands for one
-- byte more than whole groups do. As the fourth, after '=', or where the pad bits of b are zero: then for two bytes more. It must stand for `least`.
unfoldable pub pad_fits : ℕ → ℕ → ℕ → Bool
pad_fits least i b =
    (eqb (i % 4) 2 && eqb (value b % 16) 0 && leb least (i / 4 * 3 + 1))
    || (eqb (i % 4) 3 && (eqb b pad_character || (eqb (value b % 4) 0 && leb least (i / 4 * 3 + 2))))

-- Texts that stand for at least `least` bytes, and for a number of bytes that `allows` allows.
module _ (p : Bool) (least : ℕ) (allows : ℕ → Bool) where
  unfoldable pub within : List ℕ → Bool
  within t = accepted p t && leb least (length (decoded p t)) && allows (length (decoded p t))

  -- May the character c stand at place i, after the character b? One of the alphabet may, but not after '=', and not if that makes too many bytes.
  unfoldable pub fits : ℕ → ℕ → ℕ → Bool
  fits i b c =
      (ltb (value c) 64 && not (eqb b pad_character) && allows (fewest_bytes (suc i) (value c)))
      || (p && eqb c pad_character && pad_fits least i b)

  -- The first place, from i on, of a character that may not stand where it does, or the place behind the last character. The characters from i on
  -- are t, and b is the one before them.
  unfoldable pub stop_from : ℕ → ℕ → List ℕ → ℕ
  stop_from i b [] = i
  stop_from i b (c ∷ t) = cond (fits i b c) (stop_from (suc i) c t) i

  -- Before the first character stands none, for which 0 is put.
  unfoldable pub stop : List ℕ → ℕ
  stop t = stop_from 0 0 t

-- Any number of bytes.
abbrev pub any_number : ℕ → Bool
any_number n = true

-- The place of a text that `accepted p` refuses: RFC 4648 alone, with no limit.
unfoldable pub broken_at : Bool → List ℕ → ℕ
broken_at p t = stop p 0 any_number t
