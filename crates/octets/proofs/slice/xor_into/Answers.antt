-- `xor_into`: after i turns the first i bytes are those of the sum.
-- Assumes nothing.
use Rattle.std.proofs.Common.{◌∙◌, arith}
use Rattle.octets.proofs.Lists.{filled_all}
use Rattle.octets.proofs.Xors.{length-xors, xor_more}
use Rattle.octets.proofs.slice.xor_into.Goals as goal

pub loop-i-preserved : goal.loop-i-preserved
loop-i-preserved c =
    let l = c.loop-i in
    xor_more c.args.src.now c.args.dst.now l.dst l.i c.requires (omega arith) l.invariant

pub returns : goal.returns
returns c =
    let l = c.loop-i in
    let n = length-xors c.args.dst.now c.args.src.now c.requires in
    l.invariant ∙ filled_all _ _ l.i (omega arith) (omega arith)
