-- `primitives_ctr_in_place`: the tests in order, and the text with the counter of either width.
-- Assumes nothing.
use Prim.Native.Nat.{ℕ}
use mathlib.Core.Path.{◌≡◌, sym, ◌∙◌, ap, ap₂}
use mathlib.Core.Bool.{Bool, not}
use mathlib.Core.List.{List}
use native.Mathlib.Omega.{arith}
use borrow.Author.Tests.{eq-eqb, ne_eqb}
use lib.Dec.{eqb}
use lib.ListN.{length}
use lib.Seq.{take_all}
use Rattle.octets.proofs.Lists.{placed_all}
use Rattle.aes_spec.specs.Cipher.{aes}
use Rattle.aes.proofs.Ciphers.{under_key, length-aes}
use Rattle.ctr.specs.Ctr.{inc32, inc128, inc_of, ctr}
use Rattle.ctr.proofs.Texts.{length-ctr}
use Rattle.primitives.specs.Results.{end, ctr_in_place}
use Rattle.primitives.proofs.Ends.{done}
use Rattle.primitives.proofs.counter.primitives_ctr_in_place.Goals as goal

-- The whole buffer becomes the text, with the counter that the flag says.
done_in_place : (key first text out : List ℕ) (wide : ℕ) (b : Bool) → length key ≡ 32 → length first ≡ 16 → eqb wide 0 ≡ b
    → out ≡ ctr (inc_of (not b)) (aes 8 key) first text → end 1 out ≡ ctr_in_place key first wide text
unfolding ctr_in_place
done_in_place key first text out wide b h k f q =
    let s = ctr (inc_of (not (eqb wide 0))) (aes 8 key) first text in
    let l : length s ≡ length text = length-ctr (inc_of (not (eqb wide 0))) (aes 8 key) (length-aes 8 key) first text in
    ap (end 1) (q ∙ ap (λ (x : Bool). ctr (inc_of (not x)) (aes 8 key) first text) (sym f) ∙ sym (placed_all s text (sym l)))
    ∙ done _ _ _ (rw (eq-eqb _ _ h, eq-eqb _ _ k))

pub returns-then-wide-eq0 : goal.returns-then-wide-eq0
returns-then-wide-eq0 c =
    let x = c.args in
    let f = x.first_counter.now in
    done_in_place x.key.now f x.text.now _ x.wide _ c.if-key-ne32.false c.if-first_counter-ne16.false (eq-eqb _ _ c.if-wide-eq0.true)
    (c.crypt_in_place.ensures
    ∙ ap₂ (λ (g : List ℕ → List ℕ) (q : List ℕ). ctr inc32 g q x.text.now) (under_key _ _ c.expand.ensures) (c.block_at-first.ensures ∙ take_all 16 f (omega (arith, c.if-first_counter-ne16.false))))

pub returns-else-wide-eq0 : goal.returns-else-wide-eq0
returns-else-wide-eq0 c =
    let x = c.args in
    let f = x.first_counter.now in
    done_in_place x.key.now f x.text.now _ x.wide _ c.if-key-ne32.false c.if-first_counter-ne16.false (ne_eqb _ _ c.if-wide-eq0.false)
    (c.crypt_in_place-else-wide-eq0.ensures
    ∙ ap₂ (λ (g : List ℕ → List ℕ) (q : List ℕ). ctr inc128 g q x.text.now) (under_key _ _ c.expand.ensures) (c.block_at-first.ensures ∙ take_all 16 f (omega (arith, c.if-first_counter-ne16.false))))
