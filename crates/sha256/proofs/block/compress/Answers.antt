-- `compress`: the schedule, the 64 steps and the sums.
-- Assumes nothing.
use Rattle.std.proofs.Common.{ℕ, List, ap, ◌∙◌}
use Rattle.sha256.specs.Compression.{start, steps, added, compress}
use Rattle.sha256.proofs.block.compress.Goals as goal

pub returns : goal.returns
unfolding compress
returns c =
    let v = c.args.v in
    c.added.ensures ∙ ap (added v) (c.steps.ensures ∙ ap (λ (w : List ℕ). steps w 64 (start v)) c.schedule-w.ensures)
