-- `seal_in_place`: the nonce goes to its room, and what stands behind it is sealed.
-- Assumes nothing.
use Prim.Native.Nat.{ℕ, ◌-◌}
use mathlib.Core.Path.{◌≡◌, refl, ◌∙◌, ap}
use mathlib.Core.List.{List, ◌++◌}
use native.Mathlib.Omega.{arith}
use lib.ListN.{length, take, drop, length-drop}
use Rattle.octets.proofs.Lists.{part-rest, placed-rest, rest_kept}
use Rattle.aes_spec.specs.Cipher.{cipher}
use Rattle.gcm.specs.Gcm as gcm
use Rattle.siv_gcm.specs.SivGcm.{sealed}
use Rattle.siv_gcm.proofs.stored.seal_in_place.Goals as goal

pub returns : goal.returns
unfolding sealed
returns c =
    let x = c.args in
    let n = x.nonce.now in
    let s = x.stored.now in
    let e = cipher 14 x.k.now.w.now in
    let xs = c.copy_at.new.dst in
    let r : take (length xs - 12) (drop 12 xs) ≡ drop 12 s = part-rest xs (length xs) 12 refl ∙ rest_kept n s xs 12 c.copy_at.ensures c.requires.nonce_len.0 in
    let m : length (drop 12 s) - 16 ≡ length s - 28 = omega (arith, length-drop 12 s) in
    placed-rest n c.seal_in_place.new.out s xs 12 c.copy_at.ensures c.requires.nonce_len.0
    ∙ ap (λ (t : List ℕ). n ++ t)
    (c.seal_in_place.ensures ∙ ap (λ (p : List ℕ). gcm.seal e n x.aad.now (take (length p - 16) p)) r ∙ ap (λ (j : ℕ). gcm.seal e n x.aad.now (take j (drop 12 s))) m)
