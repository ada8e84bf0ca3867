-- `digest`: the message in one part.
-- Assumes nothing.
use Rattle.std.proofs.Common.{[], ◌∙◌}
use Rattle.sha1_hash.proofs.Laws.{runs_on, ends_in_digest}
use Rattle.sha1_hash.proofs.digest.Goals as goal

pub returns : goal.returns
returns c = c.finish.ensures ∙ ends_in_digest _ _ (runs_on _ _ [] _ c.new.ensures c.update.ensures)
