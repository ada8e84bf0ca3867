-- `last_block`: a full block with the first subkey, another with the second.
-- Assumes nothing.
use mathlib.Core.Path.{◌≡◌, ◌∙◌, ap, ap₂, sym}
use mathlib.Core.Bool.{Bool, cond}
use borrow.Author.Tests.{eq-eqb, ne_eqb}
use native.Mathlib.Omega.{arith}
use mathlib.Core.List.{List}
use Prim.Native.Nat.{ℕ}
use lib.ListN.{length, replicate}
use lib.Seq.{take_all}
use Rattle.octets.specs.Xors.{xors}
use Rattle.aes_spec.specs.Cipher.{cipher}
use Rattle.siv.specs.Cmac as spec
use Rattle.siv.proofs.cmac.last_block.Goals as goal

subkey : (e : List ℕ → List ℕ) {k b z : List ℕ} → k ≡ spec.dbl b → b ≡ e z → z ≡ replicate 16 0 → k ≡ spec.subkey1 e
unfolding spec.subkey1
subkey e p q r = p ∙ ap spec.dbl (q ∙ ap e r)

pub returns-then-s-eq16 : goal.returns-then-s-eq16
unfolding spec.last_block
returns-then-s-eq16 c =
    let s = c.args.s.now in
    let e = cipher 14 c.args.w.now in
    c.add.ensures ∙ ap₂ xors (subkey e c.double-k.ensures c.encrypt.ensures c.zeros.ensures) (c.block_at.ensures ∙ take_all 16 s (omega arith))
    ∙ sym (ap (λ (b : Bool). cond b (xors (spec.subkey1 e) s) (xors (spec.subkey2 e) (spec.pad s))) (eq-eqb (length s) 16 c.if-s-eq16.true))

pub returns : goal.returns
unfolding spec.last_block spec.subkey2
returns c =
    let s = c.args.s.now in
    let e = cipher 14 c.args.w.now in
    c.add-2.ensures ∙ ap₂ xors (c.double.ensures ∙ ap spec.dbl (subkey e c.double-k.ensures c.encrypt.ensures c.zeros.ensures)) c.padded.ensures
    ∙ sym (ap (λ (b : Bool). cond b (xors (spec.subkey1 e) s) (xors (spec.subkey2 e) (spec.pad s))) (ne_eqb (length s) 16 c.if-s-eq16.false))
