-- `seal`: the ciphertext goes to the front of out, and its tag after it.
-- Assumes nothing.
use Prim.Native.Nat.{ℕ}
use mathlib.Core.Path.{◌≡◌, refl, sym, ◌∙◌, ap}
use native.Mathlib.Omega.{arith}
use lib.ListN.{length, take}
use lib.Seq.{length-take-le, take_all}
use Rattle.aes_spec.specs.Cipher.{cipher}
use Rattle.aes.proofs.Ciphers.{length-cipher}
use Rattle.gcm.specs.Gcm as spec
use Rattle.gcm.proofs.Laws.{length-crypt, sealed_front}
use Rattle.gcm.proofs.aead.seal.Goals as goal

pub slice_bounds-crypt-end-2 : goal.slice_bounds-crypt-end-2
slice_bounds-crypt-end-2 c =
    let x = c.args in
    sym (length-take-le (length x.cleartext.now) x.out.now (omega arith))

pub crypt-requires : goal.crypt-requires
crypt-requires c = let n : length (take (length c.args.cleartext.now) c.args.out.now) ≡ length c.args.cleartext.now = length-take-le (length c.args.cleartext.now) c.args.out.now (omega arith) in record { in_bounds = (c.args.k.now.keyed.1, c.requires.nonce_len.0, omega (arith, n)) }

pub returns : goal.returns
returns c =
    let x = c.args in
    let p = x.cleartext.now in
    let e = cipher 14 x.k.now.w.now in
    let le = length-cipher 14 x.k.now.w.now in
    let y = spec.crypt e x.nonce.now p in
    let n : length (take (length p) x.out.now) ≡ length p = length-take-le (length p) x.out.now (omega arith) in
    let m : length y ≡ length p = length-crypt e le x.nonce.now p in
    c.put_tag.ensures
    ∙ sealed_front e le x.nonce.now x.aad.now p c.crypt.new.out x.out.now (length p) refl c.requires.out_len
    (c.crypt.ensures ∙ ap (λ (j : ℕ). take j y) n ∙ take_all (length p) y (omega arith))
