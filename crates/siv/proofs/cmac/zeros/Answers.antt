-- `zeros`: the block of zeros.
-- Assumes nothing.
use mathlib.Core.Path.{refl}
use Rattle.octets.specs.Words.{word_bytes}
use Rattle.siv.proofs.cmac.zeros.Goals as goal

pub returns : goal.returns
unfolding word_bytes
returns c = refl
