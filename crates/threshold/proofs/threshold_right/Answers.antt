-- `threshold_right`: one limit, and then the other.
-- Assumes nothing.
use native.Mathlib.Omega.{arith}
use borrow.Author.Tests.{le-leb, lt-leb}
use Rattle.threshold.specs.Threshold.{least_threshold, threshold_right}
use Rattle.threshold.proofs.threshold_right.Goals as goal

pub returns-then-n-lt-LEAST : goal.returns-then-n-lt-LEAST
unfolding threshold_right
returns-then-n-lt-LEAST c = rw (lt-leb least_threshold c.args.n (omega (arith, c.if-n-lt-LEAST.true)))

pub returns : goal.returns
unfolding threshold_right
returns c = rw (le-leb least_threshold c.args.n (omega (arith, c.if-n-lt-LEAST.false)))
