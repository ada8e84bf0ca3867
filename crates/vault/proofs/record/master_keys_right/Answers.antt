-- `master_keys_right`: the tests in the definition's order.
-- Assumes nothing.
use borrow.Author.Tests.{eq-eqb, ne_eqb}
use Rattle.frame.specs.Frame.{master_keys_right}
use Rattle.vault.proofs.record.master_keys_right.Goals as goal

pub returns-then-enc-eq32 : goal.returns-then-enc-eq32
unfolding master_keys_right
returns-then-enc-eq32 c = rw (eq-eqb _ _ c.if-enc-eq32.true)

pub returns-else-enc-eq32 : goal.returns-else-enc-eq32
unfolding master_keys_right
returns-else-enc-eq32 c = rw (ne_eqb _ _ c.if-enc-eq32.false)
