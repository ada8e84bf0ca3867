-- `fold`: the bits shifted by 0, 1, 2 and 7 places, across the halves.
-- Assumes nothing.
use native.Mathlib.Omega.{arith}
use Rattle.gcm.proofs.Steps.{folded}
use Rattle.gcm.proofs.wide.fold.Goals as goal

pub returns : goal.returns
returns c = folded c.args.t (omega arith)
