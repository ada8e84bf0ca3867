-- `proper_size`: a zero byte and '/' stand for themselves; any other character is as `char_size` finds it.
-- Assumes nothing.
use Prim.Native.Nat.{ℕ, ◌+◌, ◌<◌}
use mathlib.Core.Path.{◌≡◌, sym, ap, ◌∙◌}
use mathlib.Core.Bool.{false, ◌&&◌, and-false}
use mathlib.Core.List.{List, ◌∷◌}
use native.Mathlib.Numerals.{add-one}
use native.Mathlib.Omega.{arith}
use lib.ListN.{length, drop, get_or}
use lib.Seq.{drop-cons}
use borrow.Author.Tests.{eq-eqb, ne_eqb}
use Rattle.utf8.specs.Utf8.{well_formed}
use Rattle.utf8.specs.ProperText.{lacks, proper_text}
use Rattle.utf8.specs.Continued.{Passed}
use Rattle.utf8.proofs.proper_size.Goals as goal
use Rattle.utf8.proofs.proper_size.Goals.{then-b-eq0-via-then-b-eq0, then-b-eq0-via-else-b-eq0+then-b-eq47}
use Rattle.std.proofs.Common.{Option, Some, None, IfNone, IfSome}

no_more : {P Q : Type 0} (o : Option ℕ) → IfNone o P → (P → Q) → IfNone o Q
no_more None p f = f p
no_more (Some n) p f = tt

both : {P Q R : ℕ → Type 0} (o : Option ℕ) → IfSome o P → IfSome o Q → ((n : ℕ) → P n → Q n → R n) → IfSome o R
both None p q f = tt
both (Some n) p q f = f n p q

module _ (s : List ℕ) (i : ℕ) (h : i < length s) where
  here : drop i s ≡ get_or s i 0 ∷ drop (i + 1) s
  here = drop-cons s i 0 h ∙ ap (λ (k : ℕ). get_or s i 0 ∷ drop k s) (sym (add-one i))

  zero_at : get_or s i 0 ≡ 0x00 → proper_text (drop i s) ≡ false
  unfolding proper_text lacks
  zero_at e = rw (here, eq-eqb (get_or s i 0) 0x00 e, and-false)

  slash-at : get_or s i 0 ≡ 0x2f → proper_text (drop i s) ≡ false
  unfolding proper_text lacks
  slash-at e = rw (here, eq-eqb (get_or s i 0) 0x2f e, and-false)

  -- A byte that a name may have.
  module _ (n : get_or s i 0 ≡ 0x00 → ⊥) (m : get_or s i 0 ≡ 0x2f → ⊥) where
    first : proper_text (drop i s) ≡ (well_formed (drop i s) && lacks 0x00 (drop (i + 1) s) && lacks 0x2f (drop (i + 1) s))
    unfolding proper_text lacks
    first = rw (here, ne_eqb (get_or s i 0) 0x00 n, ne_eqb (get_or s i 0) 0x2f m)

    broken : well_formed (drop i s) ≡ false → proper_text (drop i s) ≡ false
    broken e = first ∙ rw e

    whole : (j : ℕ) → well_formed (drop i s) ≡ well_formed (drop j s) → Passed s (i + 1) j → proper_text (drop i s) ≡ proper_text (drop j s)
    unfolding proper_text
    whole j e p = first ∙ rw (e, p 0x00 (omega arith), p 0x2f (omega arith))

pub returns-then-b-eq0-clause-s_value : goal.returns-then-b-eq0-clause-s_value
returns-then-b-eq0-clause-s_value c =
    elim c.then-b-eq0.branch [
      | then-b-eq0-via-then-b-eq0 w ↦ zero_at c.args.s.now c.args.i c.requires (omega arith)
      | then-b-eq0-via-else-b-eq0+then-b-eq47 w ↦ slash-at c.args.s.now c.args.i c.requires (omega arith)
    ]

pub returns-clause-s_value : goal.returns-clause-s_value
returns-clause-s_value c = no_more c.char_size.result c.char_size.ensures.s_value (λ p. broken c.args.s.now c.args.i c.requires (λ z. omega arith) (λ z. omega arith) p.1)

pub returns-clause-result_in_bounds : goal.returns-clause-result_in_bounds
returns-clause-result_in_bounds c =
    let s = c.args.s.now in
    let i = c.args.i in
    both c.char_size.result c.char_size.ensures.result_in_bounds c.char_size.ensures.s_value_2
    (λ n p q. (p.0, p.1, whole s i c.requires (λ z. omega arith) (λ z. omega arith) (i + n) q p.2))
