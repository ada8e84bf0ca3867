-- `counter_of`: two words lose their highest bit.
-- Assumes nothing.
use native.Mathlib.Omega.{arith}
use Rattle.siv.proofs.Counters.{counter_is}
use Rattle.siv.proofs.seal.counter_of.Goals as goal

pub returns : goal.returns
returns c =
    let v = c.args.v in
    counter_is v.a v.b v.c v.d (omega arith) (omega arith)
