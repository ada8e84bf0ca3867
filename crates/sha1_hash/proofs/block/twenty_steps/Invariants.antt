-- `twenty_steps`: n steps are done.
-- Assumes nothing.
use Rattle.std.proofs.Common.{◌≡◌}
use Rattle.sha1_hash.specs.Compression.{steps}
use Rattle.sha1_hash.specs.Working.{variables}
use Rattle.sha1_hash.proofs.block.twenty_steps.Given as goal

abbrev pub invariant-loop-n : goal.invariant-loop-n
invariant-loop-n g l = variables l.y ≡ steps l.w l.t l.n (variables l.initial.y)
