-- The sum: word by word.
-- Assumes nothing.
use mathlib.Core.Path.{sym}
use native.Mathlib.Omega.{arith}
use Rattle.gcm.proofs.WideNumbers.{four_sum}
use Rattle.gcm.proofs.wide.WideBitXor.bitxor.Goals as goal

pub returns : goal.returns
returns c =
    let x = c.args.self in
    let y = c.args.rhs in
    sym (four_sum x.a x.b x.c x.d (omega arith) (omega arith) (omega arith) y.a y.b y.c y.d (omega arith) (omega arith) (omega arith))
