-- `sub_word`: the S-box applied to each byte.
-- Assumes nothing.
use Rattle.aes_spec.specs.KeyExpansion.{sub_word}
use Rattle.aes.proofs.key.sub_word.Goals as goal

pub returns : goal.returns
unfolding sub_word
returns c = cc
