-- The constant is the definition's table, entry by entry.
-- Assumes nothing.
use mathlib.Core.Path.{refl}
use Rattle.aes_inverse.specs.InverseRoundTable.{inverse_round_table}
use Rattle.aes_inverse.proofs.round_table.InverseRoundTable.new.Goals as goal

pub invariant_of-result : goal.invariant_of-result
unfolding inverse_round_table
invariant_of-result c = record { standard = refl }
