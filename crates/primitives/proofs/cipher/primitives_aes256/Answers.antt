-- `primitives_aes256`: the tests in order, and the block under the expanded key.
-- Assumes nothing.
use Prim.Native.Nat.{ℕ}
use mathlib.Core.Path.{◌≡◌, ◌∙◌, ap}
use mathlib.Core.List.{List}
use borrow.Author.Tests.{eq-eqb, le-leb}
use native.Mathlib.Omega.{arith}
use lib.ListN.{length}
use lib.Seq.{take_all}
use Rattle.octets.specs.Bytes.{placed}
use Rattle.aes_spec.specs.Cipher.{cipher, aes}
use Rattle.aes.proofs.Ciphers.{under_key}
use Rattle.primitives.specs.Results.{end, aes_fits, aes256}
use Rattle.primitives.proofs.Ends.{done}
use Rattle.primitives.proofs.cipher.primitives_aes256.Goals as goal

pub returns : goal.returns
unfolding aes256 aes_fits
returns c =
    let x = c.args in
    let s = x.block.now in
    let n : length s ≡ 16 = c.if-block-ne16.false in
    let e : c.to_bytes.result ≡ aes 8 x.key.now s =
    c.to_bytes.ensures ∙ c.encrypt.ensures ∙ ap (cipher 14 _) (c.block_at.ensures ∙ take_all 16 s (omega arith))
    ∙ ap (λ (f : List ℕ → List ℕ). f s) (under_key _ _ c.expand.ensures) in
    ap (end 1) (c.copy_at.ensures ∙ ap (λ (l : List ℕ). placed l 0 x.out.now) e)
    ∙ done _ _ _ (rw (eq-eqb _ _ c.if-key-ne32.false, eq-eqb _ _ n, le-leb _ _ c.if-out-lt16.false))
