-- `lent_vault`: the tests in the rows' order.
-- Assumes nothing.
use mathlib.Core.Path.{sym, ap, ◌∙◌}
use native.Mathlib.Omega.{arith}
use Rattle.octets.specs.Rows.{refused}
use Rattle.vault_bytes.proofs.Lending.{no_size, no_combo, no_row}
use Rattle.vault_bytes.proofs.lent_vault.Goals as goal

pub returns-then-bytes-ne-VAULT_SIZE : goal.returns-then-bytes-ne-VAULT_SIZE
returns-then-bytes-ne-VAULT_SIZE c = let e = (no_size c.args.bytes.now c.if-bytes-ne-VAULT_SIZE.true).0 in (sym (ap refused e), λ z. omega (arith, e, z))

pub returns-then-not-known : goal.returns-then-not-known
returns-then-not-known c =
    let e = no_combo c.args.bytes.now c.if-bytes-ne-VAULT_SIZE.false (sym c.known.ensures ∙ c.if-not-known.true) in
    (sym (ap refused e), λ z. omega (arith, e, z))

pub returns : goal.returns
returns c = (no_row c.args.bytes.now c.if-bytes-ne-VAULT_SIZE.false (sym c.known.ensures ∙ c.if-not-known.false), c.vault_in.ensures)
