-- `seal_in_place`: the nonce and the ciphertext go before the MAC's room, and their MAC into it.
-- Assumes nothing.
use Prim.Native.Nat.{ℕ, ◌+◌, ◌-◌}
use mathlib.Core.Path.{◌≡◌, sym, ◌∙◌, ap}
use mathlib.Core.List.{List, ◌++◌}
use native.Mathlib.Omega.{arith}
use lib.ListN.{length, take, drop}
use lib.Seq.{length-take-le, take-add, drop_at}
use Rattle.aes_spec.specs.Cipher.{cipher}
use Rattle.ctr.specs.Ctr.{inc128, ctr}
use Rattle.hmac.specs.Hmac.{hmac_sha256}
use Rattle.siv_ctrmac.proofs.Sealed.{sealed_front}
use Rattle.siv_ctrmac.proofs.stored.seal_in_place.Goals as goal

pub slice_bounds-encipher_in_place-end-2 : goal.slice_bounds-encipher_in_place-end-2
slice_bounds-encipher_in_place-end-2 c = sym (length-take-le _ c.args.stored.now (omega arith))

pub encipher_in_place-requires : goal.encipher_in_place-requires
encipher_in_place-requires c =
    let d = c.args.stored.now in
    let l : length (take (length d - 32) d) ≡ length d - 32 = length-take-le (length d - 32) d (omega arith) in record { in_bounds = c.requires.in_bounds; nonce_len = (c.requires.nonce_len.0, omega (arith, l, c.requires.nonce_len)) }

pub returns : goal.returns
returns c =
    let s = c.encipher_in_place in
    let x = c.args in
    let d = x.stored.now in
    let n = x.nonce.now in
    let e = length d - 32 in
    let g = cipher 14 x.w.now in
    let k : e ≡ 16 + (length d - 48) = omega (arith, c.requires.nonce_len) in
    let p : drop 16 (take e d) ≡ take (length d - 48) (drop 16 d) =
    ap (λ (j : ℕ). drop 16 (take j d)) k ∙ ap (drop 16) (take-add 16 (length d - 48) d) ∙ drop_at (take 16 d) (take (length d - 48) (drop 16 d)) 16 (length-take-le 16 d (omega (arith, c.requires.nonce_len))) in
    c.put_mac.ensures
    ∙ sealed_front g (hmac_sha256 x.key.now) (x.a.now ++ x.b.now) n (take (length d - 48) (drop 16 d)) s.new.text d e
    (s.auto.text ∙ length-take-le e d (omega arith)) (omega (arith, c.requires.nonce_len)) (s.ensures ∙ ap (λ (t : List ℕ). n ++ ctr inc128 g n t) p)
