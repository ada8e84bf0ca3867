-- `among`: whether x is among all is whether it is among those from i on.
-- Assumes nothing.
use Prim.Native.Nat.{◌*◌}
use mathlib.Core.Path.{◌≡◌, sym, ap, ◌∙◌}
use native.Mathlib.Omega.{arith}
use lib.ListN.{length, take, drop}
use Rattle.octets.specs.Bytes.{same}
use Rattle.frame.proofs.Steps.{ends_within, among_all, among_next, among_none}
use Rattle.file_parts.proofs.nonces.among.Goals as goal

pub loop-i-init : goal.loop-i-init
loop-i-init c =
    let x = c.args in
    (omega arith, among_all x.w x.k x.nonces.now x.x.now)

pub nonce-requires : goal.nonce-requires
nonce-requires c = omega (arith, ends_within c.args.w c.args.k c.loop-i.i (length c.args.nonces.now) (omega arith) c.requires)

pub returns-then-equal : goal.returns-then-equal
returns-then-equal c =
    let x = c.args in
    let found : same x.x.now (take x.w (drop (x.w * c.loop-i.i) x.nonces.now)) ≡ c.equal.result =
    ap (same x.x.now) (sym c.nonce.ensures.0) ∙ sym c.equal.ensures in
    let s = found ∙ c.if-equal.true in
    sym (c.loop-i.invariant.1 ∙ among_next x.w x.k c.loop-i.i x.nonces.now x.x.now (omega arith) ∙ rw s)

pub loop-i-preserved : goal.loop-i-preserved
loop-i-preserved c =
    let x = c.args in
    let found : same x.x.now (take x.w (drop (x.w * c.loop-i.i) x.nonces.now)) ≡ c.equal.result =
    ap (same x.x.now) (sym c.nonce.ensures.0) ∙ sym c.equal.ensures in
    let s = found ∙ c.if-equal.false in
    (omega arith, c.loop-i.invariant.1 ∙ among_next x.w x.k c.loop-i.i x.nonces.now x.x.now (omega arith) ∙ rw s)

pub returns : goal.returns
returns c =
    let x = c.args in
    sym (c.loop-i.invariant.1 ∙ among_none x.w x.k c.loop-i.i x.nonces.now x.x.now (omega arith))
