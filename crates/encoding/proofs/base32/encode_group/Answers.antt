-- `encode_group`: eight stores at the front.
-- Assumes nothing.
use Prim.Native.Nat.{ℕ}
use mathlib.Core.Path.{◌∙◌, ap}
use mathlib.Core.List.{List, [], ◌∷◌}
use native.Mathlib.Omega.{arith}
use lib.ListN.{length-set}
use lib.Seq.{sets-eq}
use Rattle.octets.specs.Bytes.{placed}
use Rattle.encoding.proofs.Quintets.{five_bytes}
use Rattle.encoding.proofs.base32.encode_group.Goals as goal

pub bounds-out-1 : goal.bounds-out-1
bounds-out-1 c = simp length-set (omega arith)

pub bounds-out-2 : goal.bounds-out-2
bounds-out-2 c = simp length-set (omega arith)

pub bounds-out-3 : goal.bounds-out-3
bounds-out-3 c = simp length-set (omega arith)

pub bounds-out-4 : goal.bounds-out-4
bounds-out-4 c = simp length-set (omega arith)

pub bounds-out-5 : goal.bounds-out-5
bounds-out-5 c = simp length-set (omega arith)

pub bounds-out-6 : goal.bounds-out-6
bounds-out-6 c = simp length-set (omega arith)

pub bounds-out-7 : goal.bounds-out-7
bounds-out-7 c = simp length-set (omega arith)

pub shape_of-out : goal.shape_of-out
shape_of-out c = simp length-set

pub returns : goal.returns
returns c =
    let x = c.args in
    sets-eq (c.letter_of.result ∷ c.letter_of-2.result ∷ c.letter_of-3.result ∷ c.letter_of-4.result ∷ c.letter_of-5.result ∷ c.letter_of-6.result ∷ c.letter_of-7.result ∷ c.letter_of-8.result ∷ []) x.out.now 0 c.requires.in_bounds ∙ ap (λ (l : List ℕ). placed l 0 x.out.now) (five_bytes _ c.requires.t_value x.a x.b x.c x.d x.e c.letter_of.ensures c.letter_of-2.ensures c.letter_of-3.ensures c.letter_of-4.ensures c.letter_of-5.ensures c.letter_of-6.ensures c.letter_of-7.ensures c.letter_of-8.ensures)
