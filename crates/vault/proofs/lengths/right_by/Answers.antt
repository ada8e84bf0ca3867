-- `right_by`: the length rule, by the remainder.
-- Assumes nothing.
use Prim.Native.Nat.{ℕ}
use mathlib.Core.Path.{sym, ap, ◌∙◌}
use mathlib.Core.Logic.{inl, inr}
use lib.Dec.{leb}
use native.Mathlib.Omega.{arith}
use Rattle.frame.specs.Layout.{limit}
use Rattle.frame.proofs.Lengths.{right-short, right-whole, right-part, right_left}
use Rattle.vault.specs.Under.{sizes_in}
use Rattle.vault.proofs.lengths.right_by.Goals as goal

pub returns-then-l-z : goal.returns-then-l-z
returns-then-l-z c = sym (right-short (sizes_in c.args.z) c.args.l (omega arith))

pub returns-then-left-z : goal.returns-then-left-z
returns-then-left-z c = let x = c.args in sym (right_left (sizes_in x.z) x.l (omega arith) (omega arith) (omega arith))

pub returns : goal.returns
returns c =
    let z = sizes_in c.args.z in
    let l = c.args.l in
    ap (λ (n : ℕ). leb n limit) c.clear_by.ensures
    ∙ elim c.else-left-gt0.either [ inl p ↦ sym (right-part z l c.if-l-z.false (omega (arith, p))) | inr e ↦ sym (right-whole z l c.if-l-z.false (omega (arith, e))) ]
