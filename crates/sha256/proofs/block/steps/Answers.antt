-- `steps`: eight times i steps are done.
-- Assumes nothing.
use Rattle.std.proofs.Common.{refl}
use Rattle.sha256.specs.Compression.{steps}
use Rattle.sha256.proofs.block.steps.Goals as goal

pub loop-i-init : goal.loop-i-init
unfolding steps
loop-i-init c = refl
