-- `char_size`: by its first byte, and the tails behind it.
-- Assumes nothing.
use Prim.Native.Nat.{ℕ, ◌+◌, ◌<◌}
use mathlib.Core.Path.{◌≡◌, sym, ap, ◌∙◌}
use mathlib.Core.Bool.{true, false, ◌&&◌}
use mathlib.Core.List.{List, ◌∷◌}
use mathlib.Core.Option.{none, some}
use native.Mathlib.Numerals.{add-one}
use native.Mathlib.Omega.{arith}
use lib.ListN.{length, drop, get_or}
use lib.Seq.{drop-cons, drop-drop}
use Rattle.utf8.specs.Utf8.{well_formed}
use Rattle.utf8.specs.Character.{character}
use Rattle.utf8.specs.Continued.{tails_from, goes_on}
use Rattle.utf8.specs.declared.Awaited.{Awaited}
use Rattle.utf8.proofs.FirstByte.{behind_one}
use Rattle.utf8.proofs.FirstCharacter.{continued_tails, ascii, unread, there, nowhere}
use Rattle.utf8.proofs.char_size.Goals as goal

module _ (s : List ℕ) (i : ℕ) (h : i < length s) where
  here : drop i s ≡ get_or s i 0 ∷ drop (i + 1) s
  here = drop-cons s i 0 h ∙ ap (λ (k : ℕ). get_or s i 0 ∷ drop k s) (sym (add-one i))

  one_formed : get_or s i 0 < 0x80 → well_formed (drop i s) ≡ well_formed (drop (i + 1) s)
  one_formed l = ap well_formed here ∙ behind_one (get_or s i 0) (drop (i + 1) s) l

  one_read : get_or s i 0 < 0x80 → (c : ℕ) × (character (drop i s) ≡ some (c, drop (i + 1) s))
  one_read l = (get_or s i 0, ap character here ∙ ascii (get_or s i 0) (drop (i + 1) s) l)

  nothing : ((t : List ℕ) → well_formed (get_or s i 0 ∷ t) ≡ false) → (character (drop i s) ≡ none) × (well_formed (drop i s) ≡ false)
  nothing f = (ap character here ∙ unread (get_or s i 0) (drop (i + 1) s) f, ap well_formed here ∙ f (drop (i + 1) s))

  module _ (w : Awaited) (f : (t : List ℕ) → well_formed (get_or s i 0 ∷ t) ≡ goes_on w t) where
    formed : well_formed (drop i s) ≡ (tails_from w.tails w.low w.high (drop (i + 1) s) && well_formed (drop w.tails (drop (i + 1) s)))
    formed = ap well_formed here ∙ f (drop (i + 1) s) ∙ continued_tails w.tails w.low w.high (drop (i + 1) s)

    broken : tails_from w.tails w.low w.high (drop (i + 1) s) ≡ false → (character (drop i s) ≡ none) × (well_formed (drop i s) ≡ false)
    broken e = (ap character here ∙ nowhere (get_or s i 0) w.tails w.low w.high (drop (i + 1) s) f e, formed ∙ rw e)

    behind_them : drop w.tails (drop (i + 1) s) ≡ drop (i + (1 + w.tails)) s
    behind_them = drop-drop w.tails (i + 1) s ∙ ap (λ (k : ℕ). drop k s) (let e : i + 1 + w.tails ≡ i + (1 + w.tails) = omega arith in e)

    module _ (e : tails_from w.tails w.low w.high (drop (i + 1) s) ≡ true) where
      whole : well_formed (drop i s) ≡ well_formed (drop (i + (1 + w.tails)) s)
      whole = formed ∙ rw (e, behind_them)

      read : (c : ℕ) × (character (drop i s) ≡ some (c, drop (i + (1 + w.tails)) s))
      read =
          let k = there (get_or s i 0) w.tails w.low w.high (drop (i + 1) s) f e in
          (k.0, ap character here ∙ k.1 ∙ ap (λ (r : List ℕ). some (k.0, r)) behind_them)

pub returns-then-b-lt128-clause-s_value_2 : goal.returns-then-b-lt128-clause-s_value_2
returns-then-b-lt128-clause-s_value_2 c = one_formed c.args.s.now c.args.i c.requires (omega arith)

pub returns-then-b-lt128-clause-by_index : goal.returns-then-b-lt128-clause-by_index
returns-then-b-lt128-clause-by_index c = one_read c.args.s.now c.args.i c.requires (omega arith)

pub returns-in_err-w-clause-s_value : goal.returns-in_err-w-clause-s_value
returns-in_err-w-clause-s_value c = rw c.from_residual.ensures (nothing c.args.s.now c.args.i c.requires c.in_err-w.ensures.tails)

pub returns-then-not-tails_at-clause-s_value : goal.returns-then-not-tails_at-clause-s_value
returns-then-not-tails_at-clause-s_value c =
    broken c.args.s.now c.args.i c.requires c.in_ok-w.w c.in_ok-w.ensures.tails (sym c.tails_at.ensures.value ∙ c.if-not-tails_at.true)

pub returns-clause-s_value_2 : goal.returns-clause-s_value_2
returns-clause-s_value_2 c = whole c.args.s.now c.args.i c.requires c.in_ok-w.w c.in_ok-w.ensures.tails (sym c.tails_at.ensures.value ∙ c.if-not-tails_at.false)

pub returns-clause-by_index : goal.returns-clause-by_index
returns-clause-by_index c = read c.args.s.now c.args.i c.requires c.in_ok-w.w c.in_ok-w.ensures.tails (sym c.tails_at.ensures.value ∙ c.if-not-tails_at.false)
