-- Row 5 of both openers bears the place of the broken text.
-- Assumes nothing.
use Prim.Native.Nat.{ℕ, ◌≤◌}
use mathlib.Core.Path.{◌≡◌, refl, sym, ap, ◌∙◌, subst}
use mathlib.Core.List.{List, [], ◌∷◌}
use native.Mathlib.Omega.{arith}
use lib.Dec.{lit≤}
use lib.ListN.{length}
use Rattle.octets.specs.Rows.{refused_at, number, End, ended}
use Rattle.octets.proofs.Rows.{by_number}
use Rattle.encoding.specs.Base64url.{encoded_length}
use Rattle.encoding.specs.Places.{Place}
use Rattle.encoding.proofs.Places.{one_place, place-among}
use Rattle.name_spec.specs.Names.{name_length}
use Rattle.name_spec.specs.Places.{longest_full, text_broken_at}
use Rattle.name_spec.specs.Calls.{open_text_rows, open_name_rows, open_name, open_long_name_rows, open_long_name}
use Rattle.name_spec.specs.Rules.{TextForm}
use Rattle.name_spec.specs.Statements.{TextPlaces}
use Rattle.name_spec.proofs.Broken.{Full, full-place}
use Rattle.name_spec.proofs.Rules.{text_exactly, name_rows_exactly}
use Rattle.name_spec.proofs.Longest.{longest_names}

-- ---- the openers

-- Within the limit: the place among the texts in the text form.
text-place : (most : ℕ) → 28 ≤ most → (t : List ℕ) → (TextForm t × (length t ≤ most) → ⊥) → Place (λ u. TextForm u × (length u ≤ most)) t (text_broken_at most t)
text-place most a t w =
    place-among (Full most) (λ u. TextForm u × (length u ≤ most)) t (text_broken_at most t)
    (λ u. (λ f. ((text_exactly u).0 f.0, f.1), λ f. ((text_exactly u).1 f.0, f.1)))
    (full-place most a t (λ f. w ((text_exactly t).0 f.0, f.1)))

any_text_place : (t : List ℕ) → (TextForm t → ⊥) → Place TextForm t (text_broken_at longest_full t)
unfolding encoded_length
any_text_place t w =
    place-among (λ u. TextForm u × (length u ≤ longest_full)) TextForm t (text_broken_at longest_full t)
    (λ u. (λ f. f.0, λ f. (f, longest_names.3 u f)))
    (text-place longest_full (omega arith) t (λ f. w f.0))

placed_same : {m p q : ℕ} → refused_at m p ≡ refused_at m q → p ≡ q
placed_same e = cc

module _ (threshold : ℕ) (enc mac id : List ℕ) where
  -- The place that an answer with the number 5 bears.
  plain_bears : (t out : List ℕ) (p : ℕ) → (open_name threshold enc mac id t out).outcome ≡ refused_at 5 p → p ≡ text_broken_at threshold t
  unfolding open_name open_name_rows open_text_rows
  plain_bears t out p e = placed_same (sym e ∙ by_number (open_name_rows threshold enc mac id t (length out)) refl (name_length t ∷ []) 3 (lit≤ tt) (ap number e))

  long_bears : (s t out : List ℕ) (p : ℕ) → (open_long_name threshold enc mac id s t out).outcome ≡ refused_at 5 p → p ≡ text_broken_at longest_full t
  unfolding open_long_name open_long_name_rows open_text_rows
  long_bears s t out p e = placed_same (sym e ∙ by_number (open_long_name_rows threshold enc mac id s t (length out)) refl (name_length t ∷ []) 3 (lit≤ tt) (ap number e))

  pub text-places : TextPlaces threshold enc mac id
  text-places = (
    λ t out p.
        let rule = ((name_rows_exactly threshold enc mac id).2 t out).1.1.1.0 in (
          λ e.
              let q = plain_bears t out p (ap (λ (x : End). x.outcome) e) in
              let k = rule.0 (e ∙ ap (λ (i : ℕ). ended (refused_at 5 i) out) q) in
              let limits = k.0.0.0.1 in
              (limits, k.0.0.1, k.0.1, subst (Place (λ u. TextForm u × (length u ≤ threshold)) t) (sym q) (text-place threshold (omega (arith, limits.0)) t k.1)),
          λ f.
              let q = one_place (λ u. TextForm u × (length u ≤ threshold)) t (text_broken_at threshold t) p (text-place threshold (omega (arith, f.0.0)) t f.3.broken) f.3 in
              rule.1 ((((tt, f.0), f.1), f.2), f.3.broken) ∙ ap (λ (i : ℕ). ended (refused_at 5 i) out) q,
        ),
    λ s t out p.
        let rule = ((name_rows_exactly threshold enc mac id).3 s t out).1.1.1.0 in (
          λ e.
              let q = long_bears s t out p (ap (λ (x : End). x.outcome) e) in
              let k = rule.0 (e ∙ ap (λ (i : ℕ). ended (refused_at 5 i) out) q) in
              (k.0.0.0.1, k.0.0.1, k.0.1, subst (Place TextForm t) (sym q) (any_text_place t k.1)),
          λ f.
              let q = one_place TextForm t (text_broken_at longest_full t) p (any_text_place t f.3.broken) f.3 in
              rule.1 ((((tt, f.0), f.1), f.2), f.3.broken) ∙ ap (λ (i : ℕ). ended (refused_at 5 i) out) q,
        ),
  )
