-- `encipher`: the nonce goes to the front of out, and the ciphertext after it.
-- Assumes nothing.
use Prim.Native.Nat.{ℕ, ◌-◌}
use mathlib.Core.Path.{◌≡◌, refl, ◌∙◌, ap, ap₂}
use mathlib.Core.List.{List, ◌++◌}
use native.Mathlib.Omega.{arith}
use lib.ListN.{length, take, drop, length-drop}
use lib.Seq.{take_all}
use Rattle.octets.proofs.Lists.{placed-rest, part-rest}
use Rattle.aes_spec.specs.Cipher.{cipher}
use Rattle.aes.specs.Blocks.{state}
use Rattle.aes.proofs.Ciphers.{length-cipher}
use Rattle.ctr.specs.Ctr.{inc128, ctr}
use Rattle.ctr.proofs.Texts.{length-ctr}
use Rattle.siv_ctrmac.proofs.stored.encipher.Goals as goal

pub returns : goal.returns
returns c =
    let x = c.args in
    let n = x.nonce.now in
    let p = x.cleartext.now in
    let e = cipher 14 x.w.now in
    let xs = c.copy_at.new.dst in
    let s : state c.block_at.result ≡ n = c.block_at.ensures ∙ take_all 16 n (omega (arith, c.requires.nonce_len)) in
    let d = length-drop 16 xs in
    let kept = c.copy_at.auto.dst in
    let l : length (take (length xs - 16) (drop 16 xs)) ≡ length p = ap length (part-rest xs (length xs) 16 refl) ∙ d ∙ omega (arith, kept, c.requires.nonce_len) in
    let f = c.crypt.ensures
    ∙ ap₂ (λ (a : ℕ) (b : List ℕ). take a (ctr inc128 e b p)) l s
    ∙ take_all (length p) (ctr inc128 e n p) (omega (arith, length-ctr inc128 e (length-cipher 14 x.w.now) n p)) in
    placed-rest n c.crypt.new.out x.out.now xs 16 c.copy_at.ensures c.requires.nonce_len.0 ∙ ap (λ (b : List ℕ). n ++ b) f
