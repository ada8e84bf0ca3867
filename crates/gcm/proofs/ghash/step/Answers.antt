-- `step`: one block is added, and the sum multiplied.
-- Assumes nothing.
use Prim.Native.Nat.{ℕ}
use mathlib.Core.Path.{◌∙◌, ap}
use lib.Bits.{bit_xor}
use Rattle.gcm.specs.Elements.{value}
use Rattle.gcm.specs.Field as spec
use Rattle.gcm.proofs.ghash.step.Goals as goal

pub returns : goal.returns
returns c h e =
    let x = c.args in
    c.times.ensures h e ∙ ap (λ (z : ℕ). spec.mul z h) (c.bitxor.ensures ∙ ap (bit_xor (value x.y)) c.from.ensures)
