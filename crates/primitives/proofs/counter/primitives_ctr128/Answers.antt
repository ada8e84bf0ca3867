-- `primitives_ctr128`: the tests in order, and the text into the front of the buffer.
-- Assumes nothing.
use Prim.Native.Nat.{ℕ}
use mathlib.Core.Path.{◌≡◌, ◌∙◌, ap, ap₂}
use mathlib.Core.List.{List, ◌++◌}
use native.Mathlib.Omega.{arith}
use borrow.Author.Tests.{eq-eqb, le-leb}
use lib.ListN.{length, take, drop}
use lib.Seq.{take_all, length-take-le}
use Rattle.octets.proofs.Lists.{at_front}
use Rattle.aes_spec.specs.Cipher.{aes}
use Rattle.aes.proofs.Ciphers.{under_key, length-aes}
use Rattle.ctr.specs.Ctr.{inc128, ctr}
use Rattle.ctr.proofs.Texts.{length-ctr}
use Rattle.primitives.specs.Results.{end, ctr128}
use Rattle.primitives.proofs.Ends.{done}
use Rattle.primitives.proofs.counter.primitives_ctr128.Goals as goal

pub returns : goal.returns
unfolding ctr128
returns c =
    let x = c.args in
    let s = x.text.now in
    let f = x.first_counter.now in
    let n : length f ≡ 16 = c.if-first_counter-ne16.false in
    let e = aes 8 x.key.now in
    let l = length-ctr inc128 e (length-aes 8 x.key.now) f s in
    let k = length-take-le (length s) x.out.now c.if-out-n.false in
    let t = c.crypt.ensures
    ∙ ap₂ (λ (g : List ℕ → List ℕ) (q : List ℕ). take (length (take (length s) x.out.now)) (ctr inc128 g q s)) (under_key _ _ c.expand.ensures) (c.block_at.ensures ∙ take_all 16 f (omega arith))
    ∙ take_all (length (take (length s) x.out.now)) (ctr inc128 e f s) (omega (arith, l, k)) in
    ap (λ (r : List ℕ). end 1 (r ++ drop (length s) x.out.now)) t
    ∙ ap (end 1) (at_front (ctr inc128 e f s) x.out.now (length s) l)
    ∙ done _ _ _ (rw (eq-eqb _ _ c.if-key-ne32.false, eq-eqb _ _ n, le-leb _ _ c.if-out-n.false))
