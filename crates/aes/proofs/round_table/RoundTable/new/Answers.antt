-- The constant is the definition's table, entry by entry.
-- Assumes nothing.
use mathlib.Core.Path.{refl}
use Rattle.aes_spec.specs.RoundTable.{round_table}
use Rattle.aes.proofs.round_table.RoundTable.new.Goals as goal

pub invariant_of-result : goal.invariant_of-result
unfolding round_table
invariant_of-result c = record { standard = refl }
