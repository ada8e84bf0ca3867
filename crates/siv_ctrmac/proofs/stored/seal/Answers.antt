-- `seal`: the nonce and the ciphertext go to the front of out, and their MAC after them.
-- Assumes nothing.
use Prim.Native.Nat.{◌-◌}
use mathlib.Core.Path.{◌≡◌, sym, ◌∙◌}
use mathlib.Core.List.{◌++◌}
use native.Mathlib.Omega.{arith}
use lib.ListN.{length, take}
use lib.Seq.{length-take-le}
use Rattle.aes_spec.specs.Cipher.{cipher}
use Rattle.hmac.specs.Hmac.{hmac_sha256}
use Rattle.siv_ctrmac.proofs.Sealed.{sealed_front}
use Rattle.siv_ctrmac.proofs.stored.seal.Goals as goal

pub slice_bounds-encipher-end-2 : goal.slice_bounds-encipher-end-2
slice_bounds-encipher-end-2 c = sym (length-take-le _ c.args.out.now (omega arith))

pub encipher-requires : goal.encipher-requires
encipher-requires c =
    let d = c.args.out.now in
    let l : length (take (length d - 32) d) ≡ length d - 32 = length-take-le (length d - 32) d (omega arith) in record { in_bounds = c.requires.in_bounds; nonce_len = (c.requires.nonce_len.0, omega (arith, l, c.requires.nonce_len)) }

pub returns : goal.returns
returns c =
    let s = c.encipher in
    let x = c.args in
    let d = x.out.now in
    let e = length d - 32 in
    c.put_mac.ensures
    ∙ sealed_front (cipher 14 x.w.now) (hmac_sha256 x.key.now) (x.a.now ++ x.b.now) x.nonce.now x.cleartext.now s.new.out d e
    (s.auto.out ∙ length-take-le e d (omega arith)) (omega (arith, c.requires.nonce_len)) s.ensures
