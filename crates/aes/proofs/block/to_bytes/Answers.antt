-- `to_bytes`: the bytes of the four words in order.
-- Assumes nothing.
use Rattle.octets.specs.Words.{word_bytes}
use Rattle.aes.proofs.block.to_bytes.Goals as goal

pub returns : goal.returns
unfolding word_bytes
returns c = cc
