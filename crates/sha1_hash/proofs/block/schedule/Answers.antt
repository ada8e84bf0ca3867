-- `schedule`: the words of the block, and the 64 after them.
-- Assumes nothing.
use Rattle.std.proofs.Common.{ℕ, List, ap, ◌∙◌}
use Rattle.hashing.specs.Schedule.{extended}
use Rattle.sha1_hash.specs.Compression.{next_word, schedule}
use Rattle.sha1_hash.proofs.block.schedule.Goals as goal

pub returns : goal.returns
unfolding schedule
returns c = c.extend.ensures ∙ ap (λ (l : List ℕ). extended next_word l 64) c.load.ensures
