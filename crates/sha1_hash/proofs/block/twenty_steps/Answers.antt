-- `twenty_steps`: n steps are done.
-- Assumes nothing.
use Rattle.std.proofs.Common.{refl, arith}
use Rattle.sha1_hash.specs.Compression.{steps}
use Rattle.sha1_hash.proofs.Steps.{steps_more}
use Rattle.sha1_hash.proofs.block.twenty_steps.Goals as goal

pub loop-n-init : goal.loop-n-init
unfolding steps
loop-n-init g c = refl

pub loop-n-preserved : goal.loop-n-preserved
loop-n-preserved g c =
    let y = c.loop-n.y in
    steps_more c.args.w.now c.args.t c.loop-n.n c.args.k _ _ _ _ y.a y.b y.c y.d y.e c.requires.uses (omega arith) c.loop-n.invariant c.f.ensures c.step-y.ensures
