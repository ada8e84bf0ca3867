-- `covering`: the chunks are counted from the one that the range begins in, so that no sum wraps.
-- Assumes nothing.
use Prim.Native.Nat.{ℕ, zero, suc, ◌+◌, ◌-◌, ◌/◌, ◌%◌, ◌<◌}
use mathlib.Core.Path.{◌≡◌, refl, sym, ap, ◌∙◌}
use native.Mathlib.Omega.{arith}
use Rattle.frame.specs.Layout.{chunk_size, covering}
use Rattle.file_parts.proofs.chunks.covering.Goals as goal

covering_none : (from : ℕ) → covering from 0 ≡ 0
unfolding covering
covering_none from = refl

covering-some : (from count : ℕ) → 0 < count → covering from count ≡ (from % chunk_size + (count - 1)) / chunk_size + 1
unfolding covering
covering-some from zero h = absurd (omega arith)
covering-some from (suc c) h = omega arith

pub returns-then-count-eq0 : goal.returns-then-count-eq0
returns-then-count-eq0 c =
    let none : c.args.count ≡ 0 = omega arith in
    sym (ap (covering c.args.from) none ∙ covering_none c.args.from)

pub returns : goal.returns
returns c = sym (covering-some c.args.from c.args.count (omega arith))
