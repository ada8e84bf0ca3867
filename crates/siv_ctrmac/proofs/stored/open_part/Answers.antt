-- `open_part`: the ciphertext stands between the nonce and the MAC.
-- Assumes nothing.
use Prim.Native.Nat.{ℕ, ◌-◌}
use mathlib.Core.Path.{◌≡◌, ◌∙◌, ap₂}
use mathlib.Core.List.{List}
use native.Mathlib.Omega.{arith}
use lib.ListN.{length, take, drop}
use Rattle.aes_spec.specs.Cipher.{cipher}
use Rattle.ctr.specs.Ctr.{inc128, ctr}
use Rattle.siv_ctrmac.specs.SivCtrmac.{opened}
use Rattle.siv_ctrmac.proofs.stored.open_part.Goals as goal

pub returns : goal.returns
unfolding opened
returns c =
    let x = c.args in
    let s = x.stored.now in
    let e : length s - 32 - 16 ≡ length s - 48 = omega arith in
    c.crypt.ensures
    ∙ ap₂ (λ (a : List ℕ) (k : ℕ). take (length x.out.now) (drop x.lo (ctr inc128 (cipher 14 x.w.now) a (take k (drop 16 s))))) c.block_at.ensures e
