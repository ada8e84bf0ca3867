-- `extend`: after the turn t the first t + 1 words are the schedule's.
-- Assumes nothing.
use Rattle.std.proofs.Common.{take, refl, arith}
use Rattle.hashing.specs.Schedule.{extended}
use Rattle.hashing.proofs.Schedules.{extended_more}
use Rattle.sha1_hash.specs.Compression.{next_word}
use Rattle.sha1_hash.proofs.Schedule.{next_front}
use Rattle.sha1_hash.proofs.block.extend.Goals as goal

pub loop-t-init : goal.loop-t-init
unfolding extended
loop-t-init c = refl

pub loop-t-preserved : goal.loop-t-preserved
loop-t-preserved c =
    let l = c.loop-t in
    extended_more next_word next_front (take 16 c.args.w.now) l.w l.t _ (omega arith) (omega arith) l.invariant c.rotl1.ensures
