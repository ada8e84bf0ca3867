-- `open_in_place`: the ciphertext stands between the nonce and the MAC, and its cleartext in its place.
-- Assumes nothing.
use Prim.Native.Nat.{ℕ, ◌-◌}
use mathlib.Core.Path.{◌≡◌, ◌∙◌, ap, ap₂}
use mathlib.Core.List.{List, ◌++◌}
use native.Mathlib.Omega.{arith}
use lib.ListN.{length, take, drop}
use Rattle.octets.proofs.Lists.{placed-part}
use Rattle.aes_spec.specs.Cipher.{cipher}
use Rattle.aes.proofs.Ciphers.{length-cipher}
use Rattle.ctr.specs.Ctr.{inc128, ctr}
use Rattle.siv_ctrmac.specs.SivCtrmac.{opened}
use Rattle.siv_ctrmac.proofs.Sealed.{length-opened}
use Rattle.siv_ctrmac.proofs.stored.open_in_place.Goals as goal

pub returns : goal.returns
unfolding opened
returns c =
    let x = c.args in
    let s = x.stored.now in
    let e = cipher 14 x.w.now in
    let m : length s - 32 - 16 ≡ length s - 48 = omega arith in
    let y : c.crypt_in_place.new.text ≡ opened e s =
    c.crypt_in_place.ensures ∙ ap₂ (λ (a : List ℕ) (j : ℕ). ctr inc128 e a (take j (drop 16 s))) c.block_at.ensures m in
    ap (λ (t : List ℕ). take 16 s ++ (t ++ drop (length s - 32 - 16) (drop 16 s))) y
    ∙ placed-part (opened e s) s 16 (length s - 32 - 16) (length-opened e (length-cipher 14 x.w.now) s ∙ omega arith)
