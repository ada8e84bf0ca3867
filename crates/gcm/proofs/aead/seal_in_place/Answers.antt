-- `seal_in_place`: the cleartext becomes its ciphertext, and the tag is written behind it.
-- Assumes nothing.
use Prim.Native.Nat.{◌-◌}
use mathlib.Core.Path.{sym, ◌∙◌}
use native.Mathlib.Omega.{arith}
use lib.ListN.{length, take}
use lib.Seq.{length-take-le}
use Rattle.aes_spec.specs.Cipher.{cipher}
use Rattle.aes.proofs.Ciphers.{length-cipher}
use Rattle.gcm.proofs.Laws.{sealed_front}
use Rattle.gcm.proofs.aead.seal_in_place.Goals as goal

pub slice_bounds-crypt_in_place-end-2 : goal.slice_bounds-crypt_in_place-end-2
slice_bounds-crypt_in_place-end-2 c =
    let d = c.args.out.now in
    sym (length-take-le (length d - 16) d (omega arith))

pub returns : goal.returns
returns c =
    let x = c.args in
    let d = x.out.now in
    let n = length d - 16 in
    c.put_tag.ensures
    ∙ sealed_front (cipher 14 x.k.now.w.now) (length-cipher 14 x.k.now.w.now) x.nonce.now x.aad.now (take n d) c.crypt_in_place.new.text d n
    (length-take-le n d (omega arith)) (omega (arith, c.requires.nonce_len)) c.crypt_in_place.ensures
