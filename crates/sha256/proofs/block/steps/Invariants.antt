-- `steps`: eight times i steps are done.
-- Assumes nothing.
use Rattle.std.proofs.Common.{◌≡◌, ◌*◌}
use Rattle.sha256.specs.Compression.{steps}
use Rattle.sha256.specs.Working.{variables}
use Rattle.sha256.proofs.block.steps.Given as goal

abbrev pub invariant-loop-i : goal.invariant-loop-i
invariant-loop-i l = variables l.y ≡ steps l.w (8 * l.i) (variables l.initial.y)
