-- `step`: the standard's step.
-- Assumes nothing.
use Rattle.sha256.specs.Compression.{step}
use Rattle.sha256.proofs.block.step.Goals as goal

pub returns : goal.returns
unfolding step
returns c = cc
