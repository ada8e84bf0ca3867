-- `encipher_in_place`: the nonce goes to its room, and what stands behind it becomes its ciphertext.
-- Assumes nothing.
use Prim.Native.Nat.{ℕ, ◌-◌}
use mathlib.Core.Path.{◌≡◌, refl, ◌∙◌, ap, ap₂}
use mathlib.Core.List.{List, ◌++◌}
use native.Mathlib.Omega.{arith}
use lib.ListN.{length, take, drop}
use lib.Seq.{take_all}
use Rattle.octets.proofs.Lists.{part-rest, placed-rest, rest_kept}
use Rattle.aes_spec.specs.Cipher.{cipher}
use Rattle.aes.specs.Blocks.{state}
use Rattle.ctr.specs.Ctr.{inc128, ctr}
use Rattle.siv_ctrmac.proofs.stored.encipher_in_place.Goals as goal

pub returns : goal.returns
returns c =
    let x = c.args in
    let n = x.nonce.now in
    let s = x.text.now in
    let xs = c.copy_at.new.dst in
    let f : state c.block_at.result ≡ n = c.block_at.ensures ∙ take_all 16 n (omega (arith, c.requires.nonce_len)) in
    let r : take (length xs - 16) (drop 16 xs) ≡ drop 16 s = part-rest xs (length xs) 16 refl ∙ rest_kept n s xs 16 c.copy_at.ensures c.requires.nonce_len.0 in
    placed-rest n c.crypt_in_place.new.text s xs 16 c.copy_at.ensures c.requires.nonce_len.0
    ∙ ap (λ (t : List ℕ). n ++ t) (c.crypt_in_place.ensures ∙ ap₂ (ctr inc128 (cipher 14 x.w.now)) f r)
