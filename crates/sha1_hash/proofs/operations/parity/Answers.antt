-- `parity`: the standard's form.
-- Assumes nothing.
use Rattle.std.proofs.Common.{refl}
use Rattle.sha1_hash.specs.Operations.{parity}
use Rattle.sha1_hash.proofs.operations.parity.Goals as goal

pub returns : goal.returns
unfolding parity
returns c = refl
