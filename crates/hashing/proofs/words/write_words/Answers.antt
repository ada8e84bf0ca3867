-- `write_words`: after i turns the bytes of the first i words stand in their places.
-- Assumes nothing.
use Rattle.std.proofs.Common.{◌∙◌, arith}
use Rattle.hashing.proofs.Written.{written_more, written_all}
use Rattle.hashing.proofs.words.write_words.Goals as goal

pub loop-i-preserved : goal.loop-i-preserved
loop-i-preserved c =
    let l = c.loop-i in
    written_more c.args.w.now c.args.out.now l.out _ c.args.at l.i (omega arith) (omega arith) l.invariant c.put_word.ensures

pub returns : goal.returns
returns c = c.loop-i.invariant ∙ written_all c.args.w.now c.args.out.now c.args.at _ (omega arith)
