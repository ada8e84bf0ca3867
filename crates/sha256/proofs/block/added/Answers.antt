-- `added`: eight sums.
-- Assumes nothing.
use Rattle.sha256.specs.Compression.{added}
use Rattle.sha256.proofs.block.added.Goals as goal

pub returns : goal.returns
unfolding added
returns c = cc
