-- `write_chunk`: the tests in the rows' order, and the chunk at the front of the buffer.
-- Assumes nothing.
use Prim.Native.Nat.{ℕ, ◌+◌}
use mathlib.Core.Path.{sym, ◌∙◌, ap}
use mathlib.Core.List.{[], ◌∷◌}
use native.Mathlib.Omega.{arith}
use lib.ListN.{length}
use Rattle.octets.specs.Bytes.{filled}
use Rattle.octets.specs.Rows.{done, ended}
use Rattle.octets.proofs.Lists.{front_filled}
use Rattle.aes_spec.specs.Cipher.{aes}
use Rattle.frame.specs.Layout.{Sizes}
use Rattle.vault.specs.Under.{sealed_under}
use Rattle.content.proofs.Rows.{write_chunk_head, write_chunk_nonce, write_chunk_4, write_chunk_7, write_chunk_done}
use Rattle.content.proofs.chunk.write_chunk.Goals as goal

pub returns-then-not-head_right : goal.returns-then-not-head_right
returns-then-not-head_right c reserved =
    let v = c.args.v in
    write_chunk_head v.combo v.enc v.mac _ _ _ _ _ (sym c.head_right.ensures ∙ c.if-not-head_right.true)

pub returns-then-nonce-z : goal.returns-then-nonce-z
returns-then-nonce-z c reserved =
    let v = c.args.v in
    let size = ap (λ (z : Sizes). z.nonce) c.sizes_of-z.ensures in
    write_chunk_nonce v.combo v.enc v.mac _ _ _ _ _ (sym c.head_right.ensures ∙ c.if-not-head_right.false) (λ e. c.if-nonce-z.true (e ∙ sym size))

pub returns-then-not-within : goal.returns-then-not-within
returns-then-not-within c reserved =
    let v = c.args.v in
    let size = ap (λ (z : Sizes). z.nonce) c.sizes_of-z.ensures in
    write_chunk_4 v.combo v.enc v.mac _ _ _ _ _ (sym c.head_right.ensures ∙ c.if-not-head_right.false) (c.if-nonce-z.false ∙ size) (sym c.within.ensures ∙ c.if-not-within.true)

pub returns-then-out-n : goal.returns-then-out-n
returns-then-out-n c reserved =
    let v = c.args.v in
    let size = ap (λ (z : Sizes). z.nonce) c.sizes_of-z.ensures in
    let over = ap (λ (z : Sizes). z.overhead) c.sizes_of-z.ensures in
    write_chunk_7 v.combo v.enc v.mac _ _ _ _ _ (sym c.head_right.ensures ∙ c.if-not-head_right.false) (c.if-nonce-z.false ∙ size) (sym c.within.ensures ∙ c.if-not-within.false)
    (omega (arith, over, c.if-out-n.true))

pub returns : goal.returns
returns c reserved =
    let x = c.args in
    let v = x.v in
    let u = c.seal_under in
    let size = ap (λ (z : Sizes). z.nonce) c.sizes_of-z.ensures in
    let over = ap (λ (z : Sizes). z.overhead) c.sizes_of-z.ensures in
    let n = length x.cleartext.now + c.sizes_of-z.result.overhead in
    let b = sealed_under v.combo (aes 8 x.key.now) v.mac x.header_nonce.now x.number x.nonce.now x.cleartext.now in
    ap (ended (done (n ∷ []))) (front_filled u.new.out x.out.now n b u.auto.out u.ensures)
    ∙ ap (λ (o : ℕ). let m = length x.cleartext.now + o in ended (done (m ∷ [])) (filled b m x.out.now)) over
    ∙ write_chunk_done v.combo v.enc v.mac _ _ _ _ _ (sym c.head_right.ensures ∙ c.if-not-head_right.false) (c.if-nonce-z.false ∙ size) (sym c.within.ensures ∙ c.if-not-within.false)
    (omega (arith, over, c.if-out-n.false))
