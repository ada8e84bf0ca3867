-- What tests say, exactly: a test holds if and only if what it tests does.
-- Assumes nothing.
use Prim.Native.Nat.{ℕ, ◌≤◌, ◌<◌}
use mathlib.Core.Path.{◌≡◌, refl, sym, ap, ◌∙◌}
use mathlib.Core.Logic.{◌↔◌}
use mathlib.Core.Bool.{Bool, true, false, not, ◌&&◌, ◌||◌}
use mathlib.Core.List.{List}
use lib.Dec.{eqb, leb, ltb}
use borrow.Author.Tests.{eqb-true, eq-eqb, leb-true, leb-false, le-leb, lt-leb, ltb-false, le-ltb, not-false}
use Rattle.octets.specs.Bytes.{same}
use Rattle.octets.proofs.Equality.{true_false, and_true, true_and, same_self, same_eq, same_not}

pub self : (b : Bool) → (b ≡ true) ↔ (b ≡ true)
self b = (λ e. e, λ e. e)

pub eqb_exactly : (m n : ℕ) → (eqb m n ≡ true) ↔ (m ≡ n)
eqb_exactly m n = (eqb-true m n, eq-eqb m n)

pub leb_exactly : (m n : ℕ) → (leb m n ≡ true) ↔ (m ≤ n)
leb_exactly m n = (leb-true m n, le-leb m n)

-- tests that are not to hold
pub leb_fails : (m n : ℕ) → (leb m n ≡ false) ↔ (n < m)
leb_fails m n = (leb-false m n, lt-leb m n)

pub ltb_fails : (m n : ℕ) → (ltb m n ≡ false) ↔ (n ≤ m)
ltb_fails m n = (ltb-false m n, le-ltb m n)

pub both_exactly : {a b : Bool} {A B : Type 0} → (a ≡ true) ↔ A → (b ≡ true) ↔ B → ((a && b) ≡ true) ↔ (A × B)
both_exactly {a} {b} f g = (λ e. let p = and_true a b e in (f.0 p.0, g.0 p.1), λ p. true_and a b (f.1 p.0) (g.1 p.1))

pub not_fails : {a : Bool} {A : Type 0} → (a ≡ true) ↔ A → (not a ≡ false) ↔ A
not_fails {a} f = (λ e. f.0 (not-false a e), λ p. ap not (f.1 p))

pub or_fails : (a b : Bool) {A B : Type 0} → (a ≡ false) ↔ A → (b ≡ false) ↔ B → ((a || b) ≡ false) ↔ (A × B)
or_fails true b f g = (λ e. absurd (true_false e), λ p. f.1 p.0)
or_fails false b f g = (λ e. (f.0 refl, g.0 e), λ p. g.1 p.1)

pub same_exactly : (s t : List ℕ) → (same s t ≡ true) ↔ (s ≡ t)
same_exactly s t = (same_eq s t, λ e. ap (λ (x : List ℕ). same x t) e ∙ same_self t)

pub same_fails : (s t : List ℕ) → (same s t ≡ false) ↔ (s ≡ t → ⊥)
same_fails s t = (λ e q. true_false (sym ((same_exactly s t).1 q) ∙ e), same_not s t)
