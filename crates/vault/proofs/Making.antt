-- The law that `specs/Making.antt` states.
-- Assumes nothing.
use Prim.Native.Nat.{ℕ}
use mathlib.Core.Path.{◌≡◌, refl, sym, ◌∙◌, ap}
use mathlib.Core.Bool.{Bool, true, false}
use mathlib.Core.List.{List, []}
use native.Mathlib.Omega.{arith}
use mathlib.Core.Logic.{◌↔◌}
use lib.ListN.{replicate}
use Rattle.octets.specs.Rows.{Outcome, done, refused, refused_at}
use Rattle.octets.proofs.Equality.{true_false}
use Rattle.threshold.specs.Threshold.{threshold_right, ThresholdFits}
use Rattle.threshold.proofs.Exactly.{threshold_exactly}
use Rattle.frame.specs.Frame.{master_keys_right}
use Rattle.frame.specs.Rules.{KeySizes}
use Rattle.frame.proofs.KeySizes.{keys_exactly}
use Rattle.vault.specs.declared.record.Combo.{Combo}
use Rattle.vault.specs.Vault.{vault_with}
use Rattle.vault.specs.Making.{Making, unmade, make_vault, MakesExactly}

module _ (enc mac : List ℕ) (k : Combo) (t : ℕ) where
  pub made : master_keys_right enc mac ≡ true → threshold_right t ≡ true → record { outcome = done []; vault = vault_with enc mac k t } ≡ make_vault enc mac k t
  unfolding make_vault
  made e f = rw (e, f)

  pub no_keys : master_keys_right enc mac ≡ false → unmade (refused 1) k ≡ make_vault enc mac k t
  unfolding make_vault
  no_keys e = rw e

  pub no_threshold : master_keys_right enc mac ≡ true → threshold_right t ≡ false → unmade (refused 18) k ≡ make_vault enc mac k t
  unfolding make_vault
  no_threshold e f = rw (e, f)

-- A success and a refusal differ.
done_refused : {o : Outcome} (row : ℕ) → o ≡ refused row → o ≡ done [] → ⊥
done_refused row e d = let z : ◌≡◌ {A = ℕ} 0 1 = ap told (sym d ∙ e) in omega arith
  where
    told : Outcome → ℕ
    told (done l) = 0
    told (refused r) = 1
    told (refused_at r i) = 1

-- A test that fails: what it tests does not hold.
fails : {b : Bool} {A : Type 0} → (b ≡ true) ↔ A → b ≡ false → A → ⊥
fails f e a = true_false (sym (f.1 a) ∙ e)

by_tests : (enc mac : List ℕ) (k : Combo) (t : ℕ) (b d : Bool) → master_keys_right enc mac ≡ b → threshold_right t ≡ d →
    let r = make_vault enc mac k t in
    let none = vault_with (replicate 32 0) (replicate 32 0) k 0 in
    ((r.outcome ≡ done []) ↔ (KeySizes enc mac × ThresholdFits t))
    × ((r.outcome ≡ done []) → (r.vault.enc ≡ enc) × (r.vault.mac ≡ mac) × (r.vault.combo ≡ k) × (r.vault.threshold ≡ t))
    × ((KeySizes enc mac → ⊥) → (r.outcome ≡ refused 1) × (r.vault ≡ none))
    × (KeySizes enc mac → (ThresholdFits t → ⊥) → (r.outcome ≡ refused 18) × (r.vault ≡ none))
by_tests enc mac k t true true e f =
    let m = sym (made enc mac k t e f) in
    let sized = (keys_exactly enc mac).0 e in
    let fits = (threshold_exactly t).0 f in (
      (λ d. (sized, fits), λ s. ap (λ (r : Making). r.outcome) m),
      λ d. (ap (λ (r : Making). r.vault.enc) m, ap (λ (r : Making). r.vault.mac) m, ap (λ (r : Making). r.vault.combo) m, ap (λ (r : Making). r.vault.threshold) m),
      λ n. absurd (n sized),
      λ s n. absurd (n fits),
    )
by_tests enc mac k t true false e f =
    let m = sym (no_threshold enc mac k t e f) in
    let o = ap (λ (r : Making). r.outcome) m in (
      (λ d. absurd (done_refused 18 o d), λ s. absurd (fails (threshold_exactly t) f s.1)),
      λ d. absurd (done_refused 18 o d),
      λ n. absurd (n ((keys_exactly enc mac).0 e)),
      λ s n. (o, ap (λ (r : Making). r.vault) m),
    )
by_tests enc mac k t false d e f =
    let m = sym (no_keys enc mac k t e) in
    let o = ap (λ (r : Making). r.outcome) m in (
      (λ d. absurd (done_refused 1 o d), λ s. absurd (fails (keys_exactly enc mac) e s.0)),
      λ d. absurd (done_refused 1 o d),
      λ n. (o, ap (λ (r : Making). r.vault) m),
      λ s n. absurd (fails (keys_exactly enc mac) e s),
    )

pub makes_exactly : MakesExactly
makes_exactly enc mac k t = by_tests enc mac k t (master_keys_right enc mac) (threshold_right t) refl refl
