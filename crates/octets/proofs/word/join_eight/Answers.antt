-- `join_eight`: the number of eight bytes.
-- Assumes nothing.
use Rattle.std.proofs.Common.{◌∙◌, rules}
use Rattle.octets.proofs.BigEndian.{int_eight}
use Rattle.octets.proofs.word.join_eight.Goals as goal

pub returns : goal.returns
returns c = c.from_be_bytes.ensures ∙ int_eight c.args.bytes (search rules)
