-- `eight_steps`: one step after the other.
-- Assumes nothing.
use Rattle.std.proofs.Common.{◌≡◌, ℕ, ◌+◌, List, ap, ◌∙◌, arith}
use Rattle.sha256.specs.Compression.{Variables, steps}
use Rattle.sha256.proofs.block.eight_steps.Goals as goal

at : (w : List ℕ) (s : Variables) (m n : ℕ) → m ≡ n → steps w m s ≡ steps w n s
at w s m n e = ap (λ (i : ℕ). steps w i s) e

pub returns : goal.returns
returns c s p =
    let x = c.args in
    let n = x.n in
    let w = x.w.now in
    let a1 = c.step_at-x1.ensures s p in
    let a2 = c.step_at-x2.ensures s a1 in
    let a3 = c.step_at-x3.ensures s (a2 ∙ at w s (n + 1 + 1) (n + 2) (omega arith)) in
    let a4 = c.step_at-x4.ensures s (a3 ∙ at w s (n + 2 + 1) (n + 3) (omega arith)) in
    let a5 = c.step_at-x5.ensures s (a4 ∙ at w s (n + 3 + 1) (n + 4) (omega arith)) in
    let a6 = c.step_at-x6.ensures s (a5 ∙ at w s (n + 4 + 1) (n + 5) (omega arith)) in
    let a7 = c.step_at-x7.ensures s (a6 ∙ at w s (n + 5 + 1) (n + 6) (omega arith)) in
    let a8 = c.step_at.ensures s (a7 ∙ at w s (n + 6 + 1) (n + 7) (omega arith)) in
    a8 ∙ at w s (n + 7 + 1) (n + 8) (omega arith)
