-- `padding_of`: zeros with the byte 0x80 before them, and the number of bits behind.
-- Assumes nothing.
use Rattle.std.proofs.Common.{ℕ, ◌+◌, List, replicate, ap, ◌∙◌}
use Rattle.std.proofs.Math.ListN.{set}
use Rattle.octets.specs.Bytes.{placed}
use Rattle.hashing.specs.Message.{zeros}
use Rattle.hashing.proofs.PaddingBytes.{padding_is}
use Rattle.hashing.proofs.padding.padding_of.Goals as goal

pub returns-clause-bytes_value : goal.returns-clause-bytes_value
returns-clause-bytes_value c =
    let n = c.args.count in
    padding_is n _ (c.copy_at.ensures ∙ ap (λ (l : List ℕ). placed l (1 + zeros n) (set (replicate 72 0) 0 0x80)) c.split_eight.ensures)
