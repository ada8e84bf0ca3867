-- `encode_two`: three stores at the front, and one of padding.
-- Assumes nothing.
use Prim.Native.Nat.{ℕ}
use mathlib.Core.Path.{◌∙◌, ap}
use mathlib.Core.List.{List, [], ◌∷◌}
use native.Mathlib.Omega.{arith}
use borrow.Author.Tests.{not-true, not-false}
use lib.ListN.{length-set}
use lib.Seq.{sets-eq}
use Rattle.octets.specs.Bytes.{placed}
use Rattle.encoding.specs.Base64url.{pad_character}
use Rattle.encoding.proofs.Texts.{two_bytes, two-bytes-padded}
use Rattle.encoding.proofs.base64url.encode_two.Goals as goal

pub bounds-out-1 : goal.bounds-out-1
bounds-out-1 c = simp length-set (omega arith)

pub bounds-out-2 : goal.bounds-out-2
bounds-out-2 c = simp length-set (omega arith)

pub shape_of-out-then-not-padded : goal.shape_of-out-then-not-padded
shape_of-out-then-not-padded c = simp length-set

pub returns-then-not-padded : goal.returns-then-not-padded
returns-then-not-padded c =
    let x = c.args in
    sets-eq (c.letter_of.result ∷ c.letter_of-2.result ∷ c.letter_of-3.result ∷ []) x.out.now 0 c.requires.in_bounds.0
    ∙ rw (not-true x.padded c.if-not-padded.true-raw) (ap (λ (l : List ℕ). placed l 0 x.out.now) (two_bytes _ c.args.t.now.standard x.a x.b _ _ _ c.letter_of.ensures c.letter_of-2.ensures c.letter_of-3.ensures))

pub bounds-out-3 : goal.bounds-out-3
bounds-out-3 c = simp length-set (omega (arith, c.requires.in_bounds.1 (not-false c.args.padded c.if-not-padded.false-raw)))

pub shape_of-out : goal.shape_of-out
shape_of-out c = simp length-set

pub returns : goal.returns
returns c =
    let x = c.args in
    let h = not-false x.padded c.if-not-padded.false-raw in
    sets-eq (c.letter_of.result ∷ c.letter_of-2.result ∷ c.letter_of-3.result ∷ pad_character ∷ []) x.out.now 0 (c.requires.in_bounds.1 h)
    ∙ rw h (ap (λ (l : List ℕ). placed l 0 x.out.now) (two-bytes-padded _ c.args.t.now.standard x.a x.b _ _ _ c.letter_of.ensures c.letter_of-2.ensures c.letter_of-3.ensures))
