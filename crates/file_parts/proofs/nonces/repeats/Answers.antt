-- `repeats`: whether two of all are equal is whether two of those from i on are.
-- Assumes nothing.
use Prim.Native.Nat.{ℕ, ◌+◌, ◌-◌, ◌*◌}
use mathlib.Core.Path.{◌≡◌, refl, sym, ap, ap₂, ◌∙◌}
use mathlib.Core.Bool.{Bool}
use mathlib.Core.List.{List}
use native.Mathlib.Omega.{arith}
use lib.ListN.{length, take, drop, length-drop}
use Rattle.octets.proofs.Lists.{part-rest}
use Rattle.frame.specs.Layout.{among}
use Rattle.frame.proofs.Steps.{ends_within, rest-within, repeats_all, repeats-next, repeats_none}
use Rattle.file_parts.proofs.nonces.repeats.Goals as goal

-- what `among` tells of nonce i and those behind it
told : (w k i : ℕ) (ns x : List ℕ) (r : Bool) → x ≡ take w (drop (w * i) ns) → r ≡ among w (k - (i + 1)) x (take (length ns - w * (i + 1)) (drop (w * (i + 1)) ns))
    → among w (k - (i + 1)) (take w (drop (w * i) ns)) (drop (w * (i + 1)) ns) ≡ r
told w k i ns x r e h = ap₂ (among w (k - (i + 1))) (sym e) (sym (part-rest ns (length ns) (w * (i + 1)) refl)) ∙ sym h

pub loop-i-init : goal.loop-i-init
loop-i-init c = let x = c.args in (omega arith, repeats_all x.w x.k x.nonces.now)

pub nonce-requires : goal.nonce-requires
nonce-requires c = omega (arith, ends_within c.args.w c.args.k c.loop-i.i (length c.args.nonces.now) (omega arith) c.requires)

pub overflow_mul-w : goal.overflow_mul-w
overflow_mul-w c = omega (arith, ends_within c.args.w c.args.k c.loop-i.i (length c.args.nonces.now) (omega arith) c.requires)

pub slice_bounds-among-count : goal.slice_bounds-among-count
slice_bounds-among-count c = omega (arith, ends_within c.args.w c.args.k c.loop-i.i (length c.args.nonces.now) (omega arith) c.requires)

pub slice_bounds-among-start : goal.slice_bounds-among-start
slice_bounds-among-start c = omega (arith, ends_within c.args.w c.args.k c.loop-i.i (length c.args.nonces.now) (omega arith) c.requires)

pub among-requires : goal.among-requires
among-requires c =
    let ns = c.args.nonces.now in
    let a = c.args.w * (c.loop-i.i + 1) in
    let n = ap length (part-rest ns (length ns) a refl) ∙ length-drop a ns in
    omega (arith, n, rest-within c.args.w c.args.k c.loop-i.i (length ns) (omega arith) c.requires)

pub returns-then-among : goal.returns-then-among
returns-then-among c =
    let x = c.args in
    let found = told x.w x.k c.loop-i.i x.nonces.now c.nonce.result.now c.among.result c.nonce.ensures.0 c.among.ensures in
    let s = found ∙ c.if-among.true in
    sym (c.loop-i.invariant.1 ∙ repeats-next x.w x.k c.loop-i.i x.nonces.now (omega arith) ∙ rw s)

pub loop-i-preserved : goal.loop-i-preserved
loop-i-preserved c =
    let x = c.args in
    let found = told x.w x.k c.loop-i.i x.nonces.now c.nonce.result.now c.among.result c.nonce.ensures.0 c.among.ensures in
    let s = found ∙ c.if-among.false in
    (omega arith, c.loop-i.invariant.1 ∙ repeats-next x.w x.k c.loop-i.i x.nonces.now (omega arith) ∙ rw s)

pub returns : goal.returns
returns c =
    let x = c.args in
    sym (c.loop-i.invariant.1 ∙ repeats_none x.w x.k c.loop-i.i x.nonces.now (omega arith))
