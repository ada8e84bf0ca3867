-- `chain`: at each turn the chain is what the definition makes of the blocks that are left.
-- Assumes nothing.
use Prim.Native.Nat.{◌-◌, ◌*◌}
use mathlib.Core.Path.{◌≡◌, sym, ◌∙◌, ap}
use native.Mathlib.Omega.{arith}
use lib.ListN.{drop}
use Rattle.aes_spec.specs.Cipher.{cipher}
use Rattle.aes.specs.Blocks.{state}
use Rattle.siv.specs.Cmac as spec
use Rattle.siv.proofs.Chains.{chain-step, chain_zero}
use Rattle.siv.proofs.cmac.chain.Goals as goal

pub loop-i-init : goal.loop-i-init
loop-i-init c =
    let x = c.args in
    let e : x.n ≡ x.n - 0 = omega arith in
    ap (spec.chain (cipher 14 x.w.now) (state x.c) x.s.now) e

pub loop-i-preserved : goal.loop-i-preserved
loop-i-preserved c =
    let l = c.loop-i in
    let x = c.args in
    let e = cipher 14 x.w.now in
    l.invariant ∙ chain-step e (state l.x) x.s.now _ _ x.n l.i (omega arith) c.block_at.ensures (c.encrypt-x.ensures ∙ ap e c.add.ensures)

pub returns : goal.returns
returns c =
    let l = c.loop-i in
    let x = c.args in
    let e = cipher 14 x.w.now in
    let n : x.n - l.i ≡ 0 = omega arith in
    sym (l.invariant ∙ ap (spec.chain e (state l.x) (drop (16 * l.i) x.s.now)) n ∙ chain_zero e (state l.x) _)
