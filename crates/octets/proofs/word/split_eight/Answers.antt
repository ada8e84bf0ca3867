-- `split_eight`: the eight bytes of a number.
-- Assumes nothing.
use Rattle.std.proofs.Common.{◌∙◌}
use Rattle.octets.proofs.BigEndian.{be_bytes}
use Rattle.octets.proofs.word.split_eight.Goals as goal

pub returns : goal.returns
returns c = c.to_be_bytes.ensures ∙ be_bytes 8 _
