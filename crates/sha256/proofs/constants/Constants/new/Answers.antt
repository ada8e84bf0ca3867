-- `new`: the standard's constants.
-- Assumes nothing.
use Rattle.std.proofs.Common.{refl}
use Rattle.sha256.specs.Constants.{constants}
use Rattle.sha256.proofs.constants.Constants.new.Goals as goal

pub invariant_of-result : goal.invariant_of-result
unfolding constants
invariant_of-result c = record { standard = refl }
