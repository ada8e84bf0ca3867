-- `equal`: the halves of the two are equal, exactly where the sum of their differences is 0.
-- Assumes nothing.
use Prim.Native.Nat.{ℕ, ◌+◌}
use mathlib.Core.Path.{◌≡◌, sym, ◌∙◌, ap, ap₂}
use mathlib.Core.List.{List, ◌++◌}
use native.Mathlib.Omega.{arith}
use lib.Dec.{eqb}
use lib.ListN.{length, take, drop, length-drop, take-append-drop}
use lib.Seq.{take_all}
use borrow.Author.Tests.{eq-eqb, eqb-true}
use Rattle.octets.specs.Bytes.{same}
use Rattle.octets.proofs.Equality.{same_self, same_eq, iff}
use Rattle.siv_ctrmac.proofs.stored.equal.Goals as goal

halves : (a b : List ℕ) (x y : ℕ) → length a ≡ 32 → length b ≡ 32
    → eqb x 0 ≡ same (take 16 a) (take 16 b) → eqb y 0 ≡ same (take 16 (drop 16 a)) (take 16 (drop 16 b)) → eqb (x + y) 0 ≡ same a b
halves a b x y l m e f =
    let p : take 16 (drop 16 a) ≡ drop 16 a = take_all 16 (drop 16 a) (omega (arith, length-drop 16 a)) in
    let q : take 16 (drop 16 b) ≡ drop 16 b = take_all 16 (drop 16 b) (omega (arith, length-drop 16 b)) in
    iff (eqb (x + y) 0) (same a b)
    (λ h.
    let z = eqb-true (x + y) 0 h in
    let front = same_eq (take 16 a) (take 16 b) (sym e ∙ eq-eqb x 0 (omega arith)) in
    let back = same_eq (take 16 (drop 16 a)) (take 16 (drop 16 b)) (sym f ∙ eq-eqb y 0 (omega arith)) in
    let g : a ≡ b = sym (take-append-drop 16 a) ∙ ap₂ (λ (s t : List ℕ). s ++ t) front (sym p ∙ back ∙ q) ∙ take-append-drop 16 b in
    ap (λ (s : List ℕ). same s b) g ∙ same_self b)
    (λ h.
    let g = same_eq a b h in
    let u = eqb-true x 0 (e ∙ ap (λ (s : List ℕ). same (take 16 s) (take 16 b)) g ∙ same_self (take 16 b)) in
    let v = eqb-true y 0 (f ∙ ap (λ (s : List ℕ). same (take 16 (drop 16 s)) (take 16 (drop 16 b))) g ∙ same_self (take 16 (drop 16 b))) in
    eq-eqb (x + y) 0 (omega arith))

pub returns : goal.returns
returns c =
    let x = c.args in
    halves x.a.now x.b.now c.differences-first.result c.differences-second.result c.requires.0 c.requires.1
    (c.differences-first.ensures.1 ∙ ap₂ same c.block_at.ensures c.block_at-2.ensures)
    (c.differences-second.ensures.1 ∙ ap₂ same c.block_at-3.ensures c.block_at-4.ensures)
