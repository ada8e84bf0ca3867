-- `Counter128::after`: the block counts as one number.
-- Assumes nothing.
use Rattle.std.proofs.Common.{◌≡◌, ℕ, ◌+◌, ◌*◌, ◌/◌, ◌%◌, ◌^◌, ap, ◌∙◌, arith}
use Rattle.octets.specs.BigEndian.{be}
use Rattle.octets.proofs.BigEndian.{be_halves}
use Rattle.ctr.proofs.WideCounters.{after_sum}
use Rattle.ctr.proofs.counter.Counter128Counter.after.Goals as goal

pub returns : goal.returns
returns c =
    let q = c.args.first in
    let s = (c.number_of.result + c.args.i) % 2 ^ 128 in
    let e : s / 2 ^ 64 * 2 ^ 64 + s % 2 ^ 64 ≡ s = omega arith in
    be_halves (s / 2 ^ 64) (s % 2 ^ 64) (omega arith) (omega arith)
    ∙ ap (be 16) e
    ∙ after_sum q.a q.b q.c q.d c.args.i s (omega arith) (omega arith) (omega arith) (omega arith) (ap (λ (n : ℕ). (n + c.args.i) % 2 ^ 128) c.number_of.ensures)
