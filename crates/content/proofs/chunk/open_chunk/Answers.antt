-- `open_chunk`: the tests in the rows' order, and the cleartext at the front of the buffer.
-- Assumes nothing.
use Prim.Native.Nat.{ℕ, ◌+◌, ◌-◌}
use mathlib.Core.Path.{◌≡◌, sym, ◌∙◌, ap}
use mathlib.Core.Bool.{Bool, ◌&&◌}
use mathlib.Core.List.{List, [], ◌∷◌, ◌++◌}
use native.Mathlib.Omega.{arith}
use lib.Dec.{leb}
use lib.ListN.{length, take-append-drop, drop}
use Rattle.octets.specs.Bytes.{filled}
use Rattle.octets.specs.Rows.{done, refused_at, ended}
use Rattle.octets.proofs.Lists.{front_filled}
use Rattle.aes_spec.specs.Cipher.{aes}
use Rattle.frame.specs.Layout.{Sizes}
use Rattle.vault.specs.Under.{opened_under}
use Rattle.content.proofs.Rows.{open_chunk_1, open_chunk_4, open_chunk_7, open_chunk_10, open_chunk_done}
use Rattle.content.proofs.chunk.open_chunk.Goals as goal

-- the code's test of a chunk's size, by the combo's overhead
tested : {r : Bool} {a o : ℕ} (b : List ℕ) → a ≡ o → r ≡ (leb (a + 1) (length b) && leb (length b) (32768 + a)) → r ≡ (leb (o + 1) (length b) && leb (length b) (32768 + o))
tested b same said = said ∙ ap (λ (n : ℕ). leb (n + 1) (length b) && leb (length b) (32768 + n)) same

pub returns-then-not-head_right : goal.returns-then-not-head_right
returns-then-not-head_right c reserved =
    let v = c.args.v in
    open_chunk_1 v.combo v.enc v.mac _ _ _ _ (sym c.head_right.ensures ∙ c.if-not-head_right.true)

pub returns-then-not-within : goal.returns-then-not-within
returns-then-not-within c reserved =
    let v = c.args.v in
    let over = ap (λ (z : Sizes). z.overhead) c.sizes_of-z.ensures in
    open_chunk_4 v.combo v.enc v.mac _ _ _ _ (sym c.head_right.ensures ∙ c.if-not-head_right.false) (sym (tested c.args.chunk.now over c.within.ensures) ∙ c.if-not-within.true)

pub returns-then-out-n : goal.returns-then-out-n
returns-then-out-n c reserved =
    let v = c.args.v in
    let over = ap (λ (z : Sizes). z.overhead) c.sizes_of-z.ensures in
    open_chunk_7 v.combo v.enc v.mac _ _ _ _ (sym c.head_right.ensures ∙ c.if-not-head_right.false) (sym (tested c.args.chunk.now over c.within.ensures) ∙ c.if-not-within.false) (omega (arith, over, c.if-out-n.true))

pub returns-then-not-open_under : goal.returns-then-not-open_under
returns-then-not-open_under c reserved =
    let x = c.args in
    let v = x.v in
    let u = c.open_under in
    let n = length x.chunk.now - c.sizes_of-z.result.overhead in
    let over = ap (λ (z : Sizes). z.overhead) c.sizes_of-z.ensures in
    let kept : u.new.out ++ drop n x.out.now ≡ x.out.now = ap (λ (s : List ℕ). s ++ drop n x.out.now) c.if-not-open_under.ensures.out_after ∙ take-append-drop n x.out.now in
    ap (ended (refused_at 10 x.number)) kept
    ∙ open_chunk_10 v.combo v.enc v.mac _ _ _ _ (sym c.head_right.ensures ∙ c.if-not-head_right.false) (sym (tested c.args.chunk.now over c.within.ensures) ∙ c.if-not-within.false) (omega (arith, over, c.if-out-n.false))
    (sym c.if-not-open_under.ensures.value)

pub returns : goal.returns
returns c reserved =
    let x = c.args in
    let v = x.v in
    let u = c.open_under in
    let n = length x.chunk.now - c.sizes_of-z.result.overhead in
    let over = ap (λ (z : Sizes). z.overhead) c.sizes_of-z.ensures in
    let b = opened_under v.combo (aes 8 x.key.now) x.chunk.now in
    ap (ended (done (n ∷ []))) (front_filled u.new.out x.out.now n b u.auto.out c.if-not-open_under.ensures.out_after)
    ∙ ap (λ (o : ℕ). let m = length x.chunk.now - o in ended (done (m ∷ [])) (filled b m x.out.now)) over
    ∙ open_chunk_done v.combo v.enc v.mac _ _ _ _ (sym c.head_right.ensures ∙ c.if-not-head_right.false) (sym (tested c.args.chunk.now over c.within.ensures) ∙ c.if-not-within.false) (omega (arith, over, c.if-out-n.false))
    (sym c.if-not-open_under.ensures.value)
