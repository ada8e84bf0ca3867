-- `load`: after t turns the first t words are the block's.
-- Assumes nothing.
use Rattle.std.proofs.Common.{refl, arith}
use Rattle.octets.specs.Words.{words}
use Rattle.hashing.proofs.Schedules.{words_more}
use Rattle.hashing.proofs.words.load.Goals as goal

pub loop-t-init : goal.loop-t-init
unfolding words
loop-t-init c = refl

pub loop-t-preserved : goal.loop-t-preserved
loop-t-preserved c =
    let l = c.loop-t in
    words_more c.args.s.now l.w c.args.at l.t _ (omega arith) (omega arith) l.invariant c.word_at.ensures.value
