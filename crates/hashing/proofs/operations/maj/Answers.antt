-- `maj`: the short form.
-- Assumes nothing.
use Rattle.hashing.proofs.ShortForms.{maj-short}
use Rattle.hashing.proofs.operations.maj.Goals as goal

pub returns : goal.returns
returns c = maj-short c.args.x c.args.y c.args.z
