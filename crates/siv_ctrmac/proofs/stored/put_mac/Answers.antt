-- `put_mac`: the MAC of what stands before it, to the end of out.
-- Assumes nothing.
use Prim.Native.Nat.{ℕ, ◌-◌}
use mathlib.Core.Path.{◌≡◌, sym, ◌∙◌, ap, ap₂}
use mathlib.Core.List.{List, ◌++◌, append_assoc}
use native.Mathlib.Omega.{arith}
use lib.ListN.{length, take, take-append-drop}
use lib.Seq.{length-take-le}
use Rattle.octets.specs.Bytes.{placed}
use Rattle.octets.proofs.Lists.{placed-behind}
use Rattle.hmac.specs.Hmac.{hmac_sha256}
use Rattle.hmac.proofs.Laws.{mac-bytes}
use Rattle.siv_ctrmac.proofs.stored.put_mac.Goals as goal

pub slice_bounds-mac-end-2 : goal.slice_bounds-mac-end-2
slice_bounds-mac-end-2 c = sym (length-take-le _ c.args.out.now (omega arith))

pub returns : goal.returns
returns c =
    let x = c.args in
    let d = x.out.now in
    let e = length d - 32 in
    let s = (x.a.now ++ x.b.now) ++ take e d in
    let t = hmac_sha256 x.key.now s in
    let f = c.mac-mac.ensures ∙ ap (hmac_sha256 x.key.now) (sym (append_assoc x.a.now x.b.now (take e d))) in
    let n : length t ≡ 32 = (mac-bytes x.key.now s).0 in
    c.copy_at.ensures
    ∙ ap₂ (λ (y z : List ℕ). placed y e z) f (sym (take-append-drop e d))
    ∙ placed-behind (take e d) t d e (length-take-le e d (omega arith)) (omega (arith, n, c.requires))
