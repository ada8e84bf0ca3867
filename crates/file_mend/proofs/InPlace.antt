-- The cleartext of a chunk, deciphered in its place and with a part replaced there.
-- Assumes nothing.
use Prim.Native.Nat.{ℕ, ◌+◌, ◌-◌, ◌≤◌}
use mathlib.Core.Path.{◌≡◌, ap, ap₂, ◌∙◌}
use mathlib.Core.List.{List, ◌++◌}
use native.Mathlib.Omega.{arith}
use lib.ListN.{length, take, drop}
use lib.Seq.{take_at}
use Rattle.octets.specs.Bytes.{placed}
use Rattle.octets.proofs.Placed.{placed-length, drop-part, placed-append, drop-placed}
use Rattle.frame.specs.Layout.{Sizes}
use Rattle.vault.specs.Under.{clear_in}

pub in_place : (z : Sizes) (part p c : List ℕ) (lo : ℕ) → z.nonce ≤ z.overhead → length p + z.overhead ≡ length c → lo + length part ≤ length p
    → clear_in z (placed part (z.nonce + lo) (placed p z.nonce c)) ≡ placed part lo p
in_place z part p c lo small long fits =
    let n = z.nonce in
    let d = placed p n c in
    let r = drop (n + length p) c in
    let ld : length d ≡ length c = placed-length p c n (omega (arith, small, long)) in
    let lx : length (placed part (n + lo) d) ≡ length d = placed-length part d (n + lo) (omega (arith, ld, small, long, fits)) in
    let e : length (placed part (n + lo) d) - z.overhead ≡ length p = omega (arith, lx, ld, long) in
    let g : drop n (placed part (n + lo) d) ≡ placed part lo p ++ r =
    drop-placed part d n lo (omega (arith, ld, small, long, fits))
    ∙ ap (placed part lo) (drop-part p c n (omega (arith, small, long)))
    ∙ placed-append part p lo r fits in
    ap₂ take e g ∙ take_at (placed part lo p) r (length p) (placed-length part p lo fits)
