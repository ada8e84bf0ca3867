-- The places of broken texts: one at most for each, and that of base64url.
-- Assumes nothing.
use Prim.Native.Nat.{ℕ, suc, ◌≤◌, ◌<◌}
use mathlib.Core.Path.{◌≡◌, refl, sym, ap, ◌∙◌, subst}
use mathlib.Core.Bool.{Bool, true, false, ◌&&◌}
use mathlib.Core.List.{List, ◌++◌, append_assoc}
use mathlib.Core.Logic.{◌↔◌, ⊎_elim}
use native.Mathlib.Omega.{arith}
use lib.Dec.{leb, leb-zero}
use lib.ListN.{length, take, drop, take-append-drop}
use lib.Seq.{take-take}
use Rattle.octets.proofs.Lists.{le_or_lt}
use Rattle.octets.proofs.Equality.{iff, and_true, true_and, true_false}
use Rattle.encoding.specs.Base64url.{accepted, decoded}
use Rattle.encoding.specs.Places.{Begins, Place}
use Rattle.encoding.specs.Broken.{within, any_number, broken_at}
use Rattle.encoding.specs.Measures.{answer, measure_of, broken}
use Rattle.std.proofs.Common.{Err}
use Rattle.encoding.specs.declared.base64url.BrokenAt.{BrokenAt}
use Rattle.encoding.specs.Statements.{Encoded, OnePlace, StopsAtPlace, RefusedAtPlace}
use Rattle.encoding.proofs.Laws.{encoded_decodes, decoded_was_encoded}
use Rattle.encoding.proofs.Walk.{walk_stops}

-- ---- any set of texts

module _ (Right : List ℕ → Type 0) where
  -- What begins a text in its first n characters, does in fewer.
  pub begins_fewer : (t : List ℕ) (m n : ℕ) → m ≤ n → Begins Right (take n t) → Begins Right (take m t)
  begins_fewer t m n h g =
      let e : take m t ++ drop m (take n t) ≡ take n t = ap (λ (l : List ℕ). l ++ drop m (take n t)) (sym (take-take m n t h)) ∙ take-append-drop m (take n t) in
      (drop m (take n t) ++ g.0, rw (← append_assoc, e) g.1)

  not_less : (t : List ℕ) (m n : ℕ) → Place Right t m → Place Right t n → m < n → ⊥
  not_less t m n a b h = a.here (let k = b.inside in omega arith) (begins_fewer t (suc m) n h b.before)

pub one_place : OnePlace
one_place right t m n a b =
    ⊎_elim
    (λ h. ⊎_elim (λ k. omega arith) (λ k. absurd (not_less right t m n a b k)) (le_or_lt n m))
    (λ h. absurd (not_less right t n m b a h))
    (le_or_lt m n)

-- The place is that among the same texts, said otherwise.
pub place-among : (P Q : List ℕ → Type 0) (t : List ℕ) (n : ℕ) → ((u : List ℕ) → P u ↔ Q u) → Place P t n → Place Q t n
place-among P Q t n f a =
    record {
      broken = λ q. a.broken ((f t).1 q);
      inside = a.inside;
      before = (a.before.0, (f _).0 a.before.1);
      here = λ h g. a.here h (g.0, (f _).1 g.1);
    }

-- ---- base64url

within_any : (p : Bool) (s : List ℕ) → within p 0 any_number s ≡ accepted p s
unfolding within
within_any p s =
    iff (within p 0 any_number s) (accepted p s)
    (λ h. (and_true (accepted p s) _ (and_true (accepted p s && leb 0 (length (decoded p s))) true h).0).0)
    (λ h. true_and (accepted p s && leb 0 (length (decoded p s))) true (true_and (accepted p s) _ h (leb-zero (length (decoded p s)))) refl)

pub encoded_exactly : (p : Bool) (t : List ℕ) → (accepted p t ≡ true) ↔ Encoded p t
encoded_exactly p t = (
  λ h. let d = decoded_was_encoded p t h in (decoded p t, d.1, sym d.0),
  λ e. subst (λ (u : List ℕ). accepted p u ≡ true) e.2 (encoded_decodes p e.0 e.1).0,
)

pub stops_at_place : StopsAtPlace
stops_at_place p least allows some down t h =
    let st = walk_stops p least allows down some t in
    record { broken = λ e. true_false (sym e ∙ h); inside = st.inside; before = st.before; here = st.here }

accepted-place : (p : Bool) (t : List ℕ) → accepted p t ≡ false → Place (λ u. accepted p u ≡ true) t (broken_at p t)
unfolding broken_at
accepted-place p t h =
    place-among (λ u. within p 0 any_number u ≡ true) (λ u. accepted p u ≡ true) t (broken_at p t)
    (λ u. (λ e. sym (within_any p u) ∙ e, λ e. within_any p u ∙ e))
    (stops_at_place p 0 any_number refl (λ m n k e. refl) t (within_any p t ∙ h))

pub broken-inside : (p : Bool) (t : List ℕ) → broken_at p t ≤ length t
unfolding broken_at
broken-inside p t = (walk_stops p 0 any_number (λ m n k e. refl) refl t).inside

pub broken-place : (p : Bool) (t : List ℕ) → accepted p t ≡ false → Place (Encoded p) t (broken_at p t)
broken-place p t h = place-among (λ u. accepted p u ≡ true) (Encoded p) t (broken_at p t) (encoded_exactly p) (accepted-place p t h)

pub refused-at-place : RefusedAtPlace
unfolding measure_of
refused-at-place p t q = (there (accepted p t) refl, back (accepted p t) refl)
  where
    there : (b : Bool) → accepted p t ≡ b → answer b (length (decoded p t)) (broken_at p t) ≡ Err (broken q) → Place (Encoded p) t q
    there true e h = let z : ◌≡◌ {A = ℕ} 0 1 = cc in absurd (omega arith)
    there false e h = let z : broken (broken_at p t) ≡ broken q = cc in subst (Place (Encoded p) t) (ap (λ (b : BrokenAt). b.0) z) (broken-place p t e)

    back : (b : Bool) → accepted p t ≡ b → Place (Encoded p) t q → answer b (length (decoded p t)) (broken_at p t) ≡ Err (broken q)
    back true e a = absurd (a.broken ((encoded_exactly p t).0 e))
    back false e a = ap (answer false 0) (one_place (Encoded p) t (broken_at p t) q (broken-place p t e) a)
