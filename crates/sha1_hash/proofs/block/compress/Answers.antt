-- `compress`: the schedule, the 80 steps and the sums.
-- Assumes nothing.
use Rattle.std.proofs.Common.{ℕ, List, ap, ◌∙◌}
use Rattle.sha1_hash.specs.Compression.{start, steps, added, compress}
use Rattle.sha1_hash.proofs.block.compress.Goals as goal

pub returns : goal.returns
unfolding compress
returns c =
    let h = c.args.h in
    c.added.ensures ∙ ap (added h) (c.steps.ensures ∙ ap (λ (w : List ℕ). steps w 0 80 (start h)) c.schedule-w.ensures)
