-- `initial`: the standard's.
-- Assumes nothing.
use Rattle.std.proofs.Common.{refl}
use Rattle.sha256.specs.Message.{initial}
use Rattle.sha256.proofs.WordsHashValue.initial.Goals as goal

pub returns : goal.returns
unfolding initial
returns c = refl
