-- `decode_four`: three stores at the front.
-- Assumes nothing.
use Prim.Native.Nat.{ℕ, ◌+◌, ◌*◌, ◌/◌, ◌%◌}
use mathlib.Core.Path.{◌∙◌, ap}
use mathlib.Core.List.{List, [], ◌∷◌}
use native.Mathlib.Omega.{arith}
use lib.ListN.{length-set}
use lib.Seq.{sets-eq}
use Rattle.octets.specs.Bytes.{placed}
use Rattle.encoding.proofs.Texts.{four_characters}
use Rattle.encoding.proofs.base64url.decode_four.Goals as goal

pub value_at-p-requires : goal.value_at-p-requires
value_at-p-requires c = record { text_value = (c.requires.text_value, omega arith) }

pub value_at-q-requires : goal.value_at-q-requires
value_at-q-requires c = record { text_value = (c.requires.text_value, omega arith) }

pub value_at-r-requires : goal.value_at-r-requires
value_at-r-requires c = record { text_value = (c.requires.text_value, omega arith) }

pub value_at-s-requires : goal.value_at-s-requires
value_at-s-requires c = record { text_value = (c.requires.text_value, omega arith) }

pub bounds-out-1 : goal.bounds-out-1
bounds-out-1 c = simp length-set (omega arith)

pub bounds-out-2 : goal.bounds-out-2
bounds-out-2 c = simp length-set (omega arith)

pub shape_of-out : goal.shape_of-out
shape_of-out c = simp length-set

pub returns : goal.returns
returns c =
    let x = c.args in
    let h = c.requires.in_bounds in
    let p = c.value_at-p.result in
    let q = c.value_at-q.result in
    let r = c.value_at-r.result in
    let s = c.value_at-s.result in
    sets-eq ((p * 4 + q / 16) ∷ (q % 16 * 16 + r / 4) ∷ (r % 4 * 64 + s) ∷ []) x.out.now 0 h.1
    ∙ ap (λ (l : List ℕ). placed l 0 x.out.now)
    (four_characters x.text.now c.value_at-p.ensures.0 c.value_at-q.ensures.0 c.value_at-r.ensures.0 c.value_at-s.ensures.0 h.0)
