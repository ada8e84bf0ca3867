-- What the test of a combo's number says.
-- Assumes nothing.
use Prim.Native.Nat.{ℕ, ◌≤◌}
use mathlib.Core.Path.{◌≡◌, refl, sym, ◌∙◌}
use mathlib.Core.Bool.{Bool, true, false}
use mathlib.Core.Logic.{◌↔◌}
use native.Mathlib.Omega.{arith}
use borrow.Author.Tests.{eqb-true, eq-eqb, ne_eqb}
use lib.Dec.{eqb}
use Rattle.octets.proofs.Equality.{true_false}
use Rattle.vault_bytes.specs.VaultBytes.{combo_known}
use Rattle.vault_bytes.specs.Statements.{KnownCombo}

known : (n : ℕ) (b : Bool) → eqb n 1 ≡ b → KnownCombo n → combo_known n ≡ true
unfolding combo_known
known n true e g = rw e
known n false e g = rw (e, eq-eqb n 2 (g (λ q. true_false (sym (eq-eqb n 1 q) ∙ e))))

second : (n : ℕ) → combo_known n ≡ true → KnownCombo n
unfolding combo_known
second n e f = let z = ne_eqb n 1 f in eqb-true n 2 (rw z at e)

pub known_exactly : (n : ℕ) → (combo_known n ≡ true) ↔ KnownCombo n
known_exactly n = (second n, known n (eqb n 1) refl)

-- A test fails where what it tests does not hold.
pub untrue : (b : Bool) {A : Type 0} → (b ≡ true) ↔ A → (A → ⊥) → b ≡ false
untrue true f n = absurd (n (f.0 refl))
untrue false f n = refl

pub unknown : (n : ℕ) → (KnownCombo n → ⊥) → combo_known n ≡ false
unknown n = untrue (combo_known n) (known_exactly n)

below : (n : ℕ) (b : Bool) → eqb n 1 ≡ b → KnownCombo n → n ≤ 2
below n true e g = omega (arith, eqb-true n 1 e)
below n false e g = omega (arith, g (λ q. true_false (sym (eq-eqb n 1 q) ∙ e)))

-- The number of a combo is a byte.
pub small : (n : ℕ) → combo_known n ≡ true → n ≤ 2
small n e = below n (eqb n 1) refl (second n e)
