-- `multiples`: sums of the byte times 1, x, x^2 and x^3.
-- Assumes nothing.
use Prim.Native.Nat.{ℕ}
use mathlib.Core.Path.{◌∙◌, ap, ap₂}
use borrow.Author.Rules.{rules}
use lib.Bits.{bit_xor}
use Rattle.octets.proofs.Words.{renamed}
use Rattle.aes_spec.specs.Field.{xtimes}
use Rattle.aes_inverse.proofs.Unmixing.{multiples}
use Rattle.aes_inverse.proofs.unmix.multiples.Goals as goal

pub returns : goal.returns
returns c =
    let b = c.args.b in
    let x1 = c.times_x-x1.ensures in
    let x2 = c.times_x-x2.ensures ∙ ap xtimes x1 in
    let x3 = c.times_x-x3.ensures ∙ ap xtimes x2 in
    multiples b (search rules)
    (renamed c.join.ensures.has_bytes (ap₂ bit_xor (ap₂ bit_xor x3 x2) x1) (ap (λ (u : ℕ). bit_xor u b) x3) (ap (λ (u : ℕ). bit_xor u b) (ap₂ bit_xor x3 x2)) (ap (λ (u : ℕ). bit_xor u b) (ap₂ bit_xor x3 x1)))
