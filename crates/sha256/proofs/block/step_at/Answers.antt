-- `step_at`: one step more.
-- Assumes nothing.
use Rattle.std.proofs.Common.{◌≡◌, ℕ, ◌+◌, List, get_or, ◌∙◌, add-one}
use Rattle.sha256.specs.Constants.{constants}
use Rattle.sha256.specs.Compression.{Variables, step, steps}
use Rattle.sha256.proofs.block.step_at.Goals as goal

steps_more : (w : List ℕ) (n k : ℕ) (x v y : Variables) → k ≡ get_or constants n 0 → v ≡ steps w n x → y ≡ step k (get_or w n 0) v → y ≡ steps w (n + 1) x
unfolding steps
steps_more w n k x v y e p q = q ∙ rw (add-one, ← p, e)

pub returns : goal.returns
returns c s p = steps_more c.args.w.now c.args.n _ s _ _ c.at.ensures p c.step.ensures
