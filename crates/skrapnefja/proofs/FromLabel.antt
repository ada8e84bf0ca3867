-- What a label opens to makes a vault.
-- Assumes nothing.
use Prim.Native.Nat.{ℕ, ◌≤◌}
use mathlib.Core.Path.{◌≡◌, refl, sym, ap, subst}
use mathlib.Core.List.{List, [], ◌∷◌, ◌++◌}
use mathlib.Core.Logic.{⊎_elim}
use lib.ListN.{length, take}
use Rattle.octets.specs.Rows.{done, End}
use Rattle.frame.specs.Rules.{KeySizes}
use Rattle.threshold.specs.Threshold.{ThresholdFits}
use Rattle.label_spec.proofs.Theorems.{opens_exactly}
use Rattle.vault.specs.declared.record.Vault.{Vault}
use Rattle.vault.specs.Vault.{vault_with}
use Rattle.vault_bytes.specs.VaultBytes.{combo_of, store_vault, lent, lent_name}
use Rattle.vault_bytes.specs.Statements.{KnownCombo}
use Rattle.vault_bytes.proofs.Storing.{stores_exactly}
use Rattle.vault_bytes.proofs.Lending.{made_is_lent}
use Rattle.skrapnefja.specs.Statements.{LabelMakesVault}

module _ (A : Type 0) (enc mac out : List ℕ) (t : ℕ) (call : Vault → A) (refusal : ℕ → A) (k : KeySizes enc mac) (r : 66 ≤ length out) (f : ThresholdFits t) where
  -- The vault of the combo with the number n is made, and lent.
  abbrev Made : ℕ → Type 0
  Made n =
      ((store_vault enc mac n t out).outcome ≡ done (66 ∷ []))
      × (lent (take 66 (store_vault enc mac n t out).buffer) call refusal ≡ call (vault_with enc mac (combo_of n) t))
      × (lent_name (take 66 (store_vault enc mac n t out).buffer) call refusal ≡ call (vault_with enc mac (combo_of n) t))

  stored : (n : ℕ) → KnownCombo n → (store_vault enc mac n t out).outcome ≡ done (66 ∷ [])
  stored n c = ap (λ (e : End). e.outcome) ((stores_exactly enc mac out n t).0.1.1.1.1.1 ((((tt, k), r), c), f))

  gcm : Made 1
  unfolding combo_of
  gcm = let l = made_is_lent A enc mac out t call refusal k f r in (stored 1 (λ n. absurd (n refl)), l.0, l.2)

  ctrmac : Made 2
  unfolding combo_of
  ctrmac = let l = made_is_lent A enc mac out t call refusal k f r in (stored 2 (λ n. refl), l.1, l.3)

pub label_makes_vault : LabelMakesVault
label_makes_vault A enc mac l out n t call refusal k r e =
    ⊎_elim (λ o. subst (Made A enc mac out t call refusal k r o.1.fits) (sym o.0) (gcm A enc mac out t call refusal k r o.1.fits))
    (λ o. subst (Made A enc mac out t call refusal k r o.1.fits) (sym o.0) (ctrmac A enc mac out t call refusal k r o.1.fits))
    ((opens_exactly (enc ++ mac) l n t).0 e)
