-- `combo_of`: SIV_GCM for 1, else SIV_CTRMAC.
-- Assumes nothing.
use borrow.Author.Tests.{eq-eqb, ne_eqb}
use Rattle.vault_bytes.specs.VaultBytes.{combo_of}
use Rattle.vault_bytes.proofs.combo_of.Goals as goal

pub returns-then-n-eq1 : goal.returns-then-n-eq1
unfolding combo_of
returns-then-n-eq1 c = rw (eq-eqb _ _ c.if-n-eq1.true)

pub returns-else-n-eq1 : goal.returns-else-n-eq1
unfolding combo_of
returns-else-n-eq1 c = rw (ne_eqb _ _ c.if-n-eq1.false)
