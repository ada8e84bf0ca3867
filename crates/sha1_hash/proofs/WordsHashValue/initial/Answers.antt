-- `initial`: the standard's.
-- Assumes nothing.
use Rattle.std.proofs.Common.{refl}
use Rattle.sha1_hash.specs.Message.{initial}
use Rattle.sha1_hash.proofs.WordsHashValue.initial.Goals as goal

pub returns : goal.returns
unfolding initial
returns c = refl
