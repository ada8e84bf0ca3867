-- `good`: the MAC of what stands before it.
-- Assumes nothing.
use Prim.Native.Nat.{◌-◌}
use mathlib.Core.Path.{refl, sym, ◌∙◌, ap, ap₂}
use mathlib.Core.List.{append_assoc}
use native.Mathlib.Omega.{arith}
use lib.ListN.{length, take}
use lib.Seq.{length-take-le}
use Rattle.octets.specs.Bytes.{same}
use Rattle.octets.proofs.Lists.{part-rest}
use Rattle.hmac.specs.Hmac.{hmac_sha256}
use Rattle.siv_ctrmac.specs.SivCtrmac.{opens}
use Rattle.siv_ctrmac.proofs.stored.good.Goals as goal

pub slice_bounds-mac-end : goal.slice_bounds-mac-end
slice_bounds-mac-end c = sym (length-take-le _ c.args.stored.now (omega arith))

pub returns : goal.returns
unfolding opens
returns c =
    let x = c.args in
    let s = x.stored.now in
    let e = length s - 32 in
    c.equal.ensures
    ∙ ap₂ same (c.mac-mac.ensures ∙ ap (hmac_sha256 x.key.now) (sym (append_assoc x.a.now x.b.now (take e s)))) (part-rest s (length s) e refl)
