-- `absorb`: at each turn the hash is what the definition makes of the blocks that are left.
-- Assumes nothing.
use Prim.Native.Nat.{◌-◌, ◌<◌}
use mathlib.Core.Path.{◌≡◌, sym, ◌∙◌, ap}
use native.Mathlib.Omega.{arith}
use lib.ListN.{length}
use Rattle.ctr.specs.Ctr.{blocks}
use Rattle.gcm.specs.Elements.{value}
use Rattle.gcm.specs.Gcm as spec
use Rattle.gcm.proofs.Hashing.{hash_more, hash_none}
use Rattle.gcm.proofs.ghash.absorb.Goals as goal

pub loop-i-init : goal.loop-i-init
loop-i-init c h t =
    let x = c.args in
    let e : blocks (length x.s.now) ≡ blocks (length x.s.now) - 0 = omega arith in
    ap (spec.ghash_from h (value x.y) (spec.pad x.s.now)) e

pub loop-i-preserved : goal.loop-i-preserved
loop-i-preserved c h t =
    let x = c.args in
    let k : c.loop-i.i < blocks (length x.s.now) = omega arith in
    c.loop-i.invariant h t ∙ hash_more h x.s.now (value c.loop-i.z) (value c.step-z.result) c.loop-i.i _ k c.block_of.ensures (c.step-z.ensures h t)

pub returns : goal.returns
returns c h t =
    let x = c.args in
    sym (c.loop-i.invariant h t ∙ hash_none h x.s.now (value c.loop-i.z) c.loop-i.i (omega arith))
