-- `checks`: two blocks with the same end.
-- Assumes nothing.
use mathlib.Core.Path.{◌∙◌}
use Rattle.key_wrap.proofs.Parts.{checked}
use Rattle.key_wrap.proofs.registers.checks.Goals as goal

pub returns : goal.returns
returns c = c.equal.ensures ∙ checked c.args.x.now c.told-x
