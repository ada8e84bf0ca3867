-- `make_vault`: rows 1 and 18, and the keys and the threshold in the record.
-- Assumes nothing.
use Prim.Native.Nat.{ℕ}
use mathlib.Core.Path.{sym, ◌∙◌, ap₂}
use mathlib.Core.List.{List, []}
use native.Mathlib.Omega.{arith}
use Rattle.octets.specs.Rows.{done}
use Rattle.threshold.specs.Threshold.{ThresholdFits}
use Rattle.threshold.proofs.Exactly.{threshold_exactly}
use Rattle.frame.proofs.KeySizes.{master_sizes}
use Rattle.vault.specs.Vault.{vault_with}
use Rattle.vault.proofs.Making.{made, no_keys, no_threshold}
use Rattle.vault.proofs.record.make_vault.Goals as goal

pub returns-then-not-master_keys_right : goal.returns-then-not-master_keys_right
returns-then-not-master_keys_right c =
    let x = c.args in
    c.refused.ensures ∙ no_keys x.enc.now x.mac.now x.combo x.threshold (sym c.master_keys_right.ensures ∙ c.if-not-master_keys_right.true)

pub returns-then-not-threshold_right : goal.returns-then-not-threshold_right
returns-then-not-threshold_right c =
    let x = c.args in
    c.refused-then-not-threshold_right.ensures
    ∙ no_threshold x.enc.now x.mac.now x.combo x.threshold (sym c.master_keys_right.ensures ∙ c.if-not-master_keys_right.false) (sym c.threshold_right.ensures ∙ c.if-not-threshold_right.true)

pub copy_from_slice-requires : goal.copy_from_slice-requires
copy_from_slice-requires c = omega (arith, master_sizes c.args.enc.now c.args.mac.now (sym c.master_keys_right.ensures ∙ c.if-not-master_keys_right.false))

pub copy_from_slice-requires-2 : goal.copy_from_slice-requires-2
copy_from_slice-requires-2 c = omega (arith, master_sizes c.args.enc.now c.args.mac.now (sym c.master_keys_right.ensures ∙ c.if-not-master_keys_right.false))

pub overflow_cast-result : goal.overflow_cast-result
overflow_cast-result c =
    let fits : ThresholdFits c.args.threshold = (threshold_exactly _).0 (sym c.threshold_right.ensures ∙ c.if-not-threshold_right.false) in
    omega (arith, fits)

pub returns : goal.returns
returns c =
    let x = c.args in
    ap₂ (λ (y z : List ℕ). record { outcome = done []; vault = vault_with y z x.combo x.threshold }) c.copy_from_slice.ensures.after c.copy_from_slice-2.ensures.after
    ∙ made x.enc.now x.mac.now x.combo x.threshold (sym c.master_keys_right.ensures ∙ c.if-not-master_keys_right.false) (sym c.threshold_right.ensures ∙ c.if-not-threshold_right.false)
