-- Whether a character fits, case by case, and the walk one character further.
-- Assumes nothing.
use Prim.Native.Nat.{ℕ, suc, ◌+◌, ◌≤◌, ◌<◌}
use mathlib.Core.Path.{◌≡◌, sym, ap, ◌∙◌}
use mathlib.Core.Bool.{Bool, true, false, and-false, or-false}
use mathlib.Core.List.{List}
use native.Mathlib.Omega.{arith}
use lib.Dec.{eqb}
use lib.ListN.{length, drop, get_or}
use lib.Seq.{drop-cons}
use borrow.Author.Tests.{eq-eqb, ne_eqb, lt-ltb, le-ltb}
use Rattle.octets.proofs.Lists.{drop_all}
use Rattle.encoding.specs.Base64url.{value, pad_character}
use Rattle.encoding.specs.Broken.{fewest_bytes, pad_fits, fits, stop_from}
use Rattle.encoding.specs.Leading.{before}
use Rattle.encoding.proofs.Characters.{value-padding}

module _ (p : Bool) (least : ℕ) (allows : ℕ → Bool) where
  module _ (i b c : ℕ) where
    -- A character of the alphabet.
    module _ (v : value c < 64) where
      no_pad : eqb c pad_character ≡ false
      no_pad = ne_eqb c pad_character (λ e. absurd (omega (arith, ap value e ∙ value-padding)))

      pub after-padding : b ≡ pad_character → false ≡ fits p least allows i b c
      unfolding fits
      after-padding e = rw (no_pad, and-false p, lt-ltb (value c) 64 v, eq-eqb b pad_character e)

      pub by_number : (b ≡ pad_character → ⊥) → allows (fewest_bytes (suc i) (value c)) ≡ fits p least allows i b c
      unfolding fits
      by_number n = rw (no_pad, and-false p, lt-ltb (value c) 64 v, ne_eqb b pad_character n) (sym (or-false (allows (fewest_bytes (suc i) (value c)))))

    -- Any other.
    module _ (v : 64 ≤ value c) where
      pub no_padding_here : p ≡ false → false ≡ fits p least allows i b c
      unfolding fits
      no_padding_here e = rw (e, le-ltb (value c) 64 v)

      pub not_padding : (c ≡ pad_character → ⊥) → false ≡ fits p least allows i b c
      unfolding fits
      not_padding n = rw (ne_eqb c pad_character n, and-false p, le-ltb (value c) 64 v)

      pub by_padding : p ≡ true → c ≡ pad_character → pad_fits least i b ≡ fits p least allows i b c
      unfolding fits
      by_padding e f = rw (e, eq-eqb c pad_character f, le-ltb (value c) 64 v)

  module _ (t : List ℕ) (i : ℕ) where
    pub stop-here : i < length t → fits p least allows i (before t i) (get_or t i 0) ≡ false → stop_from p least allows i (before t i) (drop i t) ≡ i
    unfolding stop_from
    stop-here h f = rw (drop-cons t i 0 h, f)

    pub stop-next : i < length t → fits p least allows i (before t i) (get_or t i 0) ≡ true
        → stop_from p least allows i (before t i) (drop i t) ≡ stop_from p least allows (i + 1) (before t (i + 1)) (drop (i + 1) t)
    unfolding stop_from
    stop-next h f = let e : i + 1 ≡ suc i = omega arith in rw (drop-cons t i 0 h, f, e)

    pub stop-end : length t ≤ i → stop_from p least allows i (before t i) (drop i t) ≡ i
    unfolding stop_from
    stop-end h = rw (drop_all i t h)
