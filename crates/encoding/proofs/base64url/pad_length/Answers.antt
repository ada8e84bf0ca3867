-- `pad_length`: by the last two characters.
-- Assumes nothing.
use Prim.Native.Nat.{ℕ, ◌%◌}
use mathlib.Core.Path.{◌≡◌}
use mathlib.Core.Bool.{Bool, true, false}
use mathlib.Core.List.{List}
use borrow.Author.Rules.{rules}
use native.Mathlib.Omega.{arith}
use borrow.Author.Tests.{eq-eqb, ne_eqb, eqb-true, not-true, not-false}
use lib.ListN.{length}
use Rattle.octets.proofs.Lists.{list_tab}
use Rattle.encoding.specs.Base64url.{pad_character, pad_length, whole}
use Rattle.encoding.proofs.base64url.pad_length.Goals as goal

-- A padded text has a multiple of four characters.
multiple : (p : Bool) (t : List ℕ) → whole p t ≡ true → p ≡ true → length t % 4 ≡ 0
unfolding whole
multiple true t w e = eqb-true (length t % 4) 0 w
multiple false t w e = absurd (let z : ◌≡◌ {A = ℕ} 0 1 = cc in omega arith)

empty : (t : List ℕ) → length t ≡ 0 → 0 ≡ pad_length true t
unfolding pad_length
empty t h = rw (list_tab 0 t h)

pub returns-then-not-padded : goal.returns-then-not-padded
unfolding pad_length
returns-then-not-padded c = (rw (not-true c.args.padded c.if-not-padded.true-raw), search rules)

pub returns-then-n-eq0 : goal.returns-then-n-eq0
returns-then-n-eq0 c =
    let x = c.args in
    (rw (not-false x.padded c.if-not-padded.false-raw) (empty x.text.now c.if-n-eq0.true), search rules)

pub returns-then-text-n-ne61 : goal.returns-then-text-n-ne61
unfolding pad_length
returns-then-text-n-ne61 c = (rw (not-false c.args.padded c.if-not-padded.false-raw, ne_eqb _ pad_character c.if-text-n-ne61.true), search rules)

pub overflow_sub-n-2 : goal.overflow_sub-n-2
overflow_sub-n-2 c = omega (arith, multiple c.args.padded c.args.text.now c.requires (not-false c.args.padded c.if-not-padded.false-raw))

pub returns-then-text-n-ne61-2 : goal.returns-then-text-n-ne61-2
unfolding pad_length
returns-then-text-n-ne61-2 c = (rw (not-false c.args.padded c.if-not-padded.false-raw, eq-eqb _ pad_character c.if-text-n-ne61.false, ne_eqb _ pad_character c.if-text-n-ne61-2.true), omega arith)

pub returns : goal.returns
unfolding pad_length
returns c =
    let e = not-false c.args.padded c.if-not-padded.false-raw in
    (rw (e, eq-eqb _ pad_character c.if-text-n-ne61.false, eq-eqb _ pad_character c.if-text-n-ne61-2.false), omega (arith, multiple c.args.padded c.args.text.now c.requires e))
