-- `good`: the tag of the ciphertext is compared with the last sixteen bytes.
-- Assumes nothing.
use Prim.Native.Nat.{◌-◌, ◌≤◌}
use mathlib.Core.Path.{◌≡◌, sym, ◌∙◌, ap₂}
use native.Mathlib.Omega.{arith}
use lib.ListN.{length, take, drop, length-drop}
use lib.Seq.{length-take-le, take_all}
use Rattle.octets.specs.Bytes.{same}
use Rattle.gcm.specs.Gcm as spec
use Rattle.gcm.proofs.aead.good.Goals as goal

pub slice_bounds-tag-end : goal.slice_bounds-tag-end
slice_bounds-tag-end c =
    let s = c.args.sealed.now in
    sym (length-take-le (length s - 16) s (omega arith))

pub tag-x-requires : goal.tag-x-requires
tag-x-requires c =
    let s = c.args.sealed.now in
    let e : length (take (length s - 16) s) ≡ length s - 16 = length-take-le (length s - 16) s (omega arith) in record { nonce_len = (c.requires.nonce_len.0, c.requires.nonce_len.1, omega (arith, e, c.requires.nonce_len)) }

pub returns : goal.returns
unfolding spec.good
returns c =
    let s = c.args.sealed.now in
    let k : length (drop (length s - 16) s) ≤ 16 = rw length-drop (omega arith) in
    c.equal.ensures ∙ ap₂ same c.tag-x.ensures (c.block_at.ensures ∙ take_all 16 (drop (length s - 16) s) k)
