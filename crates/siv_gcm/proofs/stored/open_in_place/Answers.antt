-- `open_in_place`: the ciphertext stands between the nonce and the tag, and its cleartext in its place.
-- Assumes nothing.
use Prim.Native.Nat.{ℕ, ◌-◌}
use mathlib.Core.Path.{◌≡◌, sym, ◌∙◌, ap, ap₂}
use mathlib.Core.List.{List, ◌++◌}
use native.Mathlib.Omega.{arith}
use lib.ListN.{length, take, drop, replicate, length-drop}
use lib.Seq.{length-take-le}
use Rattle.octets.proofs.Lists.{placed_all, placed-part}
use Rattle.aes_spec.specs.Cipher.{cipher}
use Rattle.aes.proofs.Ciphers.{length-cipher}
use Rattle.gcm.specs.Gcm as gcm
use Rattle.siv_gcm.specs.SivGcm.{opened}
use Rattle.siv_gcm.proofs.Sealed.{opened-length}
use Rattle.siv_gcm.proofs.stored.open_in_place.Goals as goal

pub slice_bounds-copy_at-end-2 : goal.slice_bounds-copy_at-end-2
slice_bounds-copy_at-end-2 c = sym (length-take-le 12 c.args.stored.now (omega (arith, c.requires.in_bounds)))

pub copy_at-requires : goal.copy_at-requires
copy_at-requires c = omega (arith, length-take-le 12 c.args.stored.now (omega (arith, c.requires.in_bounds)))

pub returns : goal.returns
unfolding opened gcm.plain
returns c =
    let x = c.args in
    let s = x.stored.now in
    let e = cipher 14 x.w.now in
    let l : length (take 12 s) ≡ 12 = length-take-le 12 s (omega (arith, c.requires.in_bounds)) in
    let n : c.copy_at.new.dst ≡ take 12 s = c.copy_at.ensures ∙ placed_all (take 12 s) (replicate 12 0) (sym l) in
    let m : length s - 16 - 12 ≡ length (drop 12 s) - 16 = omega (arith, length-drop 12 s) in
    let y : c.crypt_in_place.new.text ≡ opened e s = c.crypt_in_place.ensures ∙ ap₂ (λ (a : List ℕ) (j : ℕ). gcm.crypt e a (take j (drop 12 s))) n m in
    ap (λ (t : List ℕ). take 12 s ++ (t ++ drop (length s - 16 - 12) (drop 12 s))) y
    ∙ placed-part (opened e s) s 12 (length s - 16 - 12) (opened-length e (length-cipher 14 x.w.now) s ∙ omega arith)
