-- `lent_name_vault`: where the threshold fits, as `lent_vault`.
-- Assumes nothing.
use mathlib.Core.Path.{sym, ap, ◌∙◌}
use native.Mathlib.Omega.{arith}
use Rattle.octets.specs.Rows.{refused}
use Rattle.vault_bytes.proofs.Lending.{no_size, no_threshold, same_row}
use Rattle.vault_bytes.proofs.lent_name_vault.Goals as goal

pub returns-then-bytes-ne-VAULT_SIZE : goal.returns-then-bytes-ne-VAULT_SIZE
returns-then-bytes-ne-VAULT_SIZE c = let e = (no_size c.args.bytes.now c.if-bytes-ne-VAULT_SIZE.true).1 in (sym (ap refused e), λ z. omega (arith, e, z))

pub returns-then-not-threshold_right : goal.returns-then-not-threshold_right
returns-then-not-threshold_right c =
    let e = no_threshold c.args.bytes.now c.if-bytes-ne-VAULT_SIZE.false (sym c.threshold_right.ensures ∙ c.if-not-threshold_right.true) in
    (sym (ap refused e), λ z. omega (arith, e, z))

pub returns : goal.returns
returns c =
    let e = same_row c.args.bytes.now c.if-bytes-ne-VAULT_SIZE.false (sym c.threshold_right.ensures ∙ c.if-not-threshold_right.false) in
    rw e c.lent_vault.ensures
