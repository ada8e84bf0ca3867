-- `times_x`: a byte below 128, or not.
-- Assumes nothing.
use borrow.Author.Rules.{rules}
use native.Mathlib.Omega.{arith}
use Rattle.aes_inverse.proofs.Unmixing.{times_x_low, times_x_high}
use Rattle.aes_inverse.proofs.unmix.times_x.Goals as goal

pub returns-then-b-lt128 : goal.returns-then-b-lt128
returns-then-b-lt128 c = times_x_low c.args.b (omega arith)

pub returns-else-b-lt128 : goal.returns-else-b-lt128
returns-else-b-lt128 c = times_x_high c.args.b (omega arith) (search rules)
