-- `encode_three`: four stores at the front.
-- Assumes nothing.
use Prim.Native.Nat.{ℕ}
use mathlib.Core.Path.{◌∙◌, ap}
use mathlib.Core.List.{List, [], ◌∷◌}
use native.Mathlib.Omega.{arith}
use lib.ListN.{length-set}
use lib.Seq.{sets-eq}
use Rattle.octets.specs.Bytes.{placed}
use Rattle.encoding.proofs.Texts.{three_bytes}
use Rattle.encoding.proofs.base64url.encode_three.Goals as goal

pub bounds-out-1 : goal.bounds-out-1
bounds-out-1 c = simp length-set (omega arith)

pub bounds-out-2 : goal.bounds-out-2
bounds-out-2 c = simp length-set (omega arith)

pub bounds-out-3 : goal.bounds-out-3
bounds-out-3 c = simp length-set (omega arith)

pub shape_of-out : goal.shape_of-out
shape_of-out c = simp length-set

pub returns : goal.returns
returns c =
    let x = c.args in
    sets-eq (c.letter_of.result ∷ c.letter_of-2.result ∷ c.letter_of-3.result ∷ c.letter_of-4.result ∷ []) x.out.now 0 c.requires.in_bounds ∙ ap (λ (l : List ℕ). placed l 0 x.out.now) (three_bytes _ c.args.t.now.standard x.a x.b x.c _ _ _ _ c.letter_of.ensures c.letter_of-2.ensures c.letter_of-3.ensures c.letter_of-4.ensures)
