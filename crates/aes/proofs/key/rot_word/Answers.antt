-- `rot_word`: the bytes in their new places.
-- Assumes nothing.
use Rattle.aes_spec.specs.KeyExpansion.{rot_word}
use Rattle.aes.proofs.key.rot_word.Goals as goal

pub returns : goal.returns
unfolding rot_word
returns c = cc
