-- `product`: at each turn the two sums together stand for the product of the bytes that were taken.
-- Assumes nothing.
use Prim.Native.Nat.{ℕ, ◌+◌, ◌/◌, ◌%◌, ◌^◌}
use mathlib.Core.Path.{◌≡◌, sym, ◌∙◌, ap, ap₂, subst}
use borrow.Author.Rules.{rules}
use native.Mathlib.Omega.{arith}
use lib.Bits.{bit_xor}
use Rattle.gcm.specs.Elements.{wide}
use Rattle.gcm.specs.Digits.{nexts}
use Rattle.gcm.proofs.Digits.{shift_more}
use Rattle.gcm.proofs.Products.{Sums, sums_none, sums_more, two_sums, sums_all}
use Rattle.gcm.proofs.table.product.Goals as goal

pub loop-n-init : goal.loop-n-init
loop-n-init c = let x = c.args.x in (omega arith, omega arith, λ h e. sums_none h x.hi x.lo)

pub loop-n-preserved : goal.loop-n-preserved
loop-n-preserved c =
    let l = c.loop-n in
    let x = c.args.x in
    let b = l.v % 256 in
    let d = l.w % 256 in (
      shift_more x.hi l._n l.v l.invariant.0,
      shift_more x.lo l._n l.w l.invariant.1,
      λ h e.
          subst (Sums h x.hi x.lo (l._n + 1))
          (sym (ap₂ (λ (y z : ℕ). bit_xor y (z / 2 ^ 4)) c.step-p.ensures c.step-q.ensures ∙ two_sums (wide l.p) (wide l.q) _ _))
          (sums_more h x.hi x.lo l._n _ (l.invariant.2 h e) (omega arith) b d _ _ _ _
          (e.entry (b / 16) (omega arith)) (e.entry (d / 16) (omega arith)) (e.entry (b % 16) (omega arith)) (e.entry (d % 16) (omega arith))
          (ap (λ (y : ℕ). y % 256) l.invariant.0) (ap (λ (y : ℕ). y % 256) l.invariant.1)),
    )

pub returns : goal.returns
returns c h e =
    let l = c.loop-n in
    let x = c.args.x in
    let n : l._n ≡ 8 = omega arith in
    ap (nexts 128) (c.bitxor.ensures ∙ ap (bit_xor (wide l.p)) c.right4.ensures)
    ∙ sums_all h x.hi x.lo _ (search rules) (subst (λ (k : ℕ). Sums h x.hi x.lo k (bit_xor (wide l.p) (wide l.q / 2 ^ 4))) n (l.invariant.2 h e))
