-- `primitives_cmac256`: the tests in order, and the tag under the expanded key.
-- Assumes nothing.
use Prim.Native.Nat.{ℕ}
use mathlib.Core.Path.{◌≡◌, ◌∙◌, ap}
use mathlib.Core.List.{List}
use borrow.Author.Tests.{eq-eqb, le-leb}
use Rattle.octets.specs.Bytes.{placed}
use Rattle.aes_spec.specs.Cipher.{aes}
use Rattle.aes.proofs.Ciphers.{under_key}
use Rattle.siv.specs.Cmac.{cmac}
use Rattle.primitives.specs.Results.{end, cmac256}
use Rattle.primitives.proofs.Ends.{done}
use Rattle.primitives.proofs.deterministic.primitives_cmac256.Goals as goal

pub returns : goal.returns
unfolding cmac256
returns c =
    let x = c.args in
    let e : c.to_bytes.result ≡ cmac (aes 8 x.key.now) x.message.now =
    c.to_bytes.ensures ∙ c.cmac.ensures ∙ ap (λ (f : List ℕ → List ℕ). cmac f x.message.now) (under_key _ _ c.expand.ensures) in
    ap (end 1) (c.copy_at.ensures ∙ ap (λ (l : List ℕ). placed l 0 x.out.now) e)
    ∙ done _ _ _ (rw (eq-eqb _ _ c.if-key-ne32.false, le-leb _ _ c.if-out-lt16.false))
