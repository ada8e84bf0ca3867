-- `decode_end`: by the number of characters.
-- Assumes nothing.
use Prim.Native.Nat.{ℕ, ◌+◌, ◌*◌, ◌/◌, ◌%◌}
use mathlib.Core.Path.{◌≡◌, ◌∙◌, ap}
use mathlib.Core.List.{List, [], ◌∷◌}
use native.Mathlib.Omega.{arith}
use lib.ListN.{length, length-set}
use lib.Seq.{sets-eq}
use Rattle.octets.specs.Bytes.{placed}
use Rattle.encoding.proofs.Texts.{no_characters, two_characters, three_characters}
use Rattle.encoding.proofs.base64url.decode_end.Goals as goal

pub returns-then-text-lt2 : goal.returns-then-text-lt2
returns-then-text-lt2 c =
    let x = c.args in
    ap (λ (l : List ℕ). placed l 0 x.out.now) (no_characters x.text.now c.if-text-lt2.true)

pub returns-then-text-eq2 : goal.returns-then-text-eq2
returns-then-text-eq2 c =
    let x = c.args in
    let p = c.value_at-p.result in
    let q = c.value_at-q.result in
    sets-eq ((p * 4 + q / 16) ∷ []) x.out.now 0 (omega arith)
    ∙ ap (λ (l : List ℕ). placed l 0 x.out.now) (two_characters x.text.now c.value_at-p.ensures.0 c.value_at-q.ensures.0 c.if-text-eq2.true)

pub bounds-out-1 : goal.bounds-out-1
bounds-out-1 c = simp length-set (omega arith)

pub shape_of-out : goal.shape_of-out
shape_of-out c = simp length-set

pub returns : goal.returns
returns c =
    let x = c.args in
    let p = c.value_at-p.result in
    let q = c.value_at-q.result in
    let r = c.value_at-r.result in
    let h : length x.text.now ≡ 3 = omega arith in
    sets-eq ((p * 4 + q / 16) ∷ (q % 16 * 16 + r / 4) ∷ []) x.out.now 0 (omega arith)
    ∙ ap (λ (l : List ℕ). placed l 0 x.out.now) (three_characters x.text.now c.value_at-p.ensures.0 c.value_at-q.ensures.0 c.value_at-r.ensures.0 h)
