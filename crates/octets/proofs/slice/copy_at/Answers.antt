-- `copy_at`: after i turns the first i bytes of src stand in their places.
-- Assumes nothing.
use Rattle.std.proofs.Common.{◌≡◌, ℕ, ◌+◌, List, ◌++◌, length, take, drop, ◌∙◌, ap, arith}
use native.Mathlib.Numerals.{add-one}
use lib.Seq.{paste, paste-zero, paste-suc, take-length}
use Rattle.octets.proofs.slice.copy_at.Goals as goal

pub loop-i-init : goal.loop-i-init
loop-i-init c = paste-zero c.args.dst.now c.args.at c.args.src.now

pub loop-i-preserved : goal.loop-i-preserved
loop-i-preserved c =
    let l = c.loop-i in
    let x = c.args in
    rw (l.invariant, add-one) (paste-suc x.dst.now x.at x.src.now l.i 0 (omega arith) (omega arith))

pub returns : goal.returns
returns c =
    let l = c.loop-i in
    let x = c.args in
    let e : l.i ≡ length x.src.now = omega arith in
    l.invariant ∙ ap (paste x.dst.now x.at x.src.now) e
    ∙ ap (λ (s : List ℕ). take x.at x.dst.now ++ s ++ drop (x.at + length x.src.now) x.dst.now) (take-length x.src.now)
