-- `added`: five sums.
-- Assumes nothing.
use Rattle.sha1_hash.specs.Compression.{added}
use Rattle.sha1_hash.proofs.block.added.Goals as goal

pub returns : goal.returns
unfolding added
returns c = cc
