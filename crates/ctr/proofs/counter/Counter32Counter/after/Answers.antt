-- `Counter32::after`: the last word counts modulo 2^32.
-- Assumes nothing.
use Rattle.std.proofs.Common.{◌≡◌, ℕ, ◌+◌, ◌%◌, ◌^◌, [], ◌∷◌, ap, ◌∙◌, arith}
use Rattle.octets.specs.Words.{word_bytes}
use Rattle.ctr.proofs.Counters.{after-word}
use Rattle.ctr.proofs.counter.Counter32Counter.after.Goals as goal

pub returns : goal.returns
unfolding word_bytes
returns c =
    let x = c.args.first in
    let i = c.args.i in
    let e : (x.d + i % 2 ^ 32) % 2 ^ 32 ≡ (x.d + i) % 2 ^ 32 = omega arith in
    ap (λ (d : ℕ). word_bytes (x.a ∷ x.b ∷ x.c ∷ d ∷ [])) e ∙ after-word x.a x.b x.c x.d i (omega arith)
