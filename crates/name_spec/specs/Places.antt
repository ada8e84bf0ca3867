-- Where the text form of a full name goes wrong, worked out, where a full name may have at most `most` characters: first a walk through its stem, then
-- its end. `Statements` says that this is the place.
-- Assumes nothing.
use Rattle.std.specs.Prelude.{ℕ, suc, ◌+◌, Bool, true, cond, ◌&&◌, List, [], ◌∷◌, eqb, leb, length, take, drop}
use Rattle.encoding.specs.Base64url.{encoded_length}
use Rattle.encoding.specs.Broken.{within, stop}
use Rattle.name_spec.specs.Names.{name_limit, iv_size, full_end, full_length}

-- The characters of the longest full name.
abbrev pub longest_full : ℕ
longest_full = full_length name_limit

-- How many characters of t, from its start on, are those of e.
unfoldable pub common : List ℕ → List ℕ → ℕ
common [] e = 0
common (c ∷ t) [] = 0
common (c ∷ t) (d ∷ e) = cond (eqb c d) (suc (common t e)) 0

module _ (most : ℕ) where
  -- A stem may stand for n bytes: no sealed name has more than 1,036, and with its end it has at most so many characters.
  unfoldable pub stem_allows : ℕ → Bool
  stem_allows n = leb n (name_limit + iv_size) && leb (encoded_length true n + length full_end) most

  -- The walk through the stem, of at least 17 bytes, stops at j. If what stands before j is a whole stem, the end ".c9r" is due there.
  unfoldable pub text_broken_at : List ℕ → ℕ
  text_broken_at t =
      let j = stop true (1 + iv_size) stem_allows t in
      cond (within true (1 + iv_size) stem_allows (take j t)) (j + common (drop j t) full_end) j
