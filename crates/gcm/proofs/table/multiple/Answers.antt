-- `multiple`: at each turn the product is what the definition makes of the bits that are left.
-- Assumes nothing.
use Prim.Native.Nat.{ℕ, ◌+◌, ◌-◌, ◌/◌, ◌%◌, ◌^◌}
use mathlib.Core.Path.{◌≡◌, refl, sym, ◌∙◌, ap}
use native.Mathlib.Omega.{arith}
use Rattle.gcm.specs.Elements.{value}
use Rattle.gcm.specs.Field as spec
use Rattle.gcm.proofs.Halves.{mul_more}
use Rattle.gcm.proofs.Digits.{four_bits_lem}
use Rattle.gcm.proofs.table.multiple.Goals as goal

pub loop-n-init : goal.loop-n-init
loop-n-init c = refl

pub loop-n-preserved : goal.loop-n-preserved
loop-n-preserved c =
    let l = c.loop-n in
    let i = c.args.i in
    let e : 4 - l.n - 1 ≡ 3 - l.n = omega arith in
    let d : 4 - (l.n + 1) ≡ 4 - l.n - 1 = omega arith in
    l.invariant
    ∙ mul_more i _ _ (4 - l.n) _ _ _ _ (omega arith) (ap (λ (k : ℕ). i / 2 ^ k % 2) (sym e)) c.scale.ensures c.bitxor-z.ensures c.next-v.ensures
    ∙ ap (λ (k : ℕ). spec.mul_from k i (value c.bitxor-z.result) (value c.next-v.result)) (sym d)

pub returns : goal.returns
unfolding spec.mul_from
returns c =
    let l = c.loop-n in
    let x = c.args in
    let e : 4 - l.n ≡ 0 = omega arith in
    sym (four_bits_lem x.i (value x.h) ∙ l.invariant ∙ ap (λ (k : ℕ). spec.mul_from k x.i (value l.z) (value l.v)) e)
