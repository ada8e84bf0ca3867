-- `double`: the words, each with the next one's highest bit, and the reduction.
-- Assumes nothing.
use native.Mathlib.Omega.{arith}
use Rattle.siv.proofs.Doubling.{doubled}
use Rattle.siv.proofs.cmac.double.Goals as goal

pub returns : goal.returns
returns c =
    let x = c.args.x in
    doubled x.a x.b x.c x.d (omega arith) (omega arith) (omega arith) (omega arith)
