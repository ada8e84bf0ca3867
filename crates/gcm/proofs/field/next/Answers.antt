-- `next`: one place to the right, across the halves.
-- Assumes nothing.
use native.Mathlib.Omega.{arith}
use Rattle.gcm.proofs.Halves.{next_halves, low_fits}
use Rattle.gcm.proofs.field.next.Goals as goal

pub overflow_add-result : goal.overflow_add-result
overflow_add-result c = let v = c.args.v in record { fits = low_fits v.hi v.lo (omega arith) }

pub returns : goal.returns
returns c =
    let v = c.args.v in
    next_halves v.hi v.lo (omega arith) (omega arith)
