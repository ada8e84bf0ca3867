-- The constant holds the value of each byte.
-- Assumes nothing.
use mathlib.Core.Path.{refl}
use Rattle.encoding.specs.Base64url.{alphabet, place, value}
use Rattle.encoding.specs.ValueTable.{values_from, value_table}
use Rattle.encoding.proofs.alphabet.values.Goals as goal

pub invariant_of-result : goal.invariant_of-result
unfolding alphabet place value values_from value_table
invariant_of-result c = record { standard = refl }
