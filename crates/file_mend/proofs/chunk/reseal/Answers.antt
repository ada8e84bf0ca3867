-- `reseal`: the chunk is deciphered, changed and sealed in its place.
-- Assumes nothing.
use Prim.Native.Nat.{ℕ, ◌+◌}
use mathlib.Core.Path.{ap, ◌∙◌}
use native.Mathlib.Omega.{arith}
use Rattle.octets.specs.Bytes.{placed}
use Rattle.aes_spec.specs.Cipher.{cipher}
use Rattle.aes.proofs.Ciphers.{length-cipher}
use Rattle.frame.specs.Layout.{Sizes}
use Rattle.vault.specs.Vault.{sizes_of}
use Rattle.vault.specs.Under.{sealed_under, opened_under, clear_in}
use Rattle.vault.proofs.Combos.{opened-size, nonce_in_chunk}
use Rattle.file_mend.proofs.InPlace.{in_place}
use Rattle.file_mend.proofs.chunk.reseal.Goals as goal

pub overflow_add-sizes_of : goal.overflow_add-sizes_of
overflow_add-sizes_of c =
    let n = ap (λ (z : Sizes). z.nonce) c.sizes_of.ensures in
    omega (arith, n, nonce_in_chunk c.args.keys.now.combo, c.requires.nonce_len)

pub open_in_place-requires : goal.open_in_place-requires
open_in_place-requires c =
    let x = c.args in
    let k = x.keys.now in
    record { tagged = (k.content.keyed.1, (k.mac.now, k.header_nonce.now, x.number, c.requires.chunk_value)); combo_in_bounds = omega (arith, c.requires.nonce_len.2) }

pub copy_at-requires : goal.copy_at-requires
copy_at-requires c =
    let n = ap (λ (z : Sizes). z.nonce) c.sizes_of.ensures in
    omega (arith, n, nonce_in_chunk c.args.keys.now.combo, c.requires.nonce_len.2)

pub returns : goal.returns
returns c =
    let n = ap (λ (z : Sizes). z.nonce) c.sizes_of.ensures in
    let x = c.args in
    let k = x.keys.now in
    let e = cipher 14 k.content.w.now in
    let p = opened_under k.combo e x.chunk.now in
    let z = sizes_of k.combo in
    let size = opened-size k.combo e (length-cipher 14 k.content.w.now) x.chunk.now in
    let f = c.requires.nonce_len.2 in
    let changed = c.copy_at.ensures ∙ ap (placed x.part.now (c.sizes_of.result.nonce + x.lo)) c.open_in_place.ensures
    ∙ ap (λ (m : ℕ). placed x.part.now (m + x.lo) (placed p z.nonce x.chunk.now)) n in
    c.seal_in_place.ensures
    ∙ ap (sealed_under k.combo e k.mac.now k.header_nonce.now x.number x.nonce.now)
    (ap (clear_in z) changed ∙ in_place z x.part.now p x.chunk.now x.lo (nonce_in_chunk k.combo) (omega (arith, size, f)) (omega (arith, size, f)))
