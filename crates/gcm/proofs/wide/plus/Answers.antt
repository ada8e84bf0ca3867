-- `plus`: the two blocks as four words, added.
-- Assumes nothing.
use Prim.Native.Nat.{◌^◌, ◌<◌}
use mathlib.Core.Path.{sym, ◌∙◌, ap}
use native.Mathlib.Omega.{arith}
use lib.Bits.{bit_xor, xor_zero_r, xor_lt}
use Rattle.gcm.specs.Elements.{wide}
use Rattle.gcm.proofs.WideNumbers.{four, four_sum, two_blocks}
use Rattle.gcm.proofs.wide.plus.Goals as goal

pub returns : goal.returns
returns c =
    let k = c.args in
    let z = k.z in
    let x = k.x in
    let y = k.y in
    let m : bit_xor x.lo y.hi < 2 ^ 64 = xor_lt 64 x.lo y.hi (omega arith) (omega arith) in
    sym (ap (bit_xor (wide z)) (sym (two_blocks x.hi x.lo y.hi y.lo (omega arith) (omega arith) (omega arith)))
    ∙ four_sum z.a z.b z.c z.d (omega arith) (omega arith) (omega arith) x.hi (bit_xor x.lo y.hi) y.lo 0 m (omega arith) (omega arith)
    ∙ ap (four (bit_xor z.a x.hi) (bit_xor z.b (bit_xor x.lo y.hi)) (bit_xor z.c y.lo)) (xor_zero_r z.d))
