-- `schedule`: the words of the block, and the 48 after them.
-- Assumes nothing.
use Rattle.std.proofs.Common.{ℕ, List, ap, ◌∙◌}
use Rattle.hashing.specs.Schedule.{extended}
use Rattle.sha256.specs.Compression.{next_word, schedule}
use Rattle.sha256.proofs.block.schedule.Goals as goal

pub returns : goal.returns
unfolding schedule
returns c = c.extend.ensures ∙ ap (λ (l : List ℕ). extended next_word l 48) c.load.ensures
