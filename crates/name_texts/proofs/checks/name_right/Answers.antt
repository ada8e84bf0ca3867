-- `name_right`: the two limits, and the text.
-- Assumes nothing.
use mathlib.Core.Bool.{and-false}
use native.Mathlib.Omega.{arith}
use lib.ListN.{length}
use borrow.Author.Tests.{le-leb, lt-leb}
use Rattle.name_spec.specs.Names.{name_limit, name_right}
use Rattle.name_texts.proofs.checks.name_right.Goals as goal

pub returns-then-name-lt1 : goal.returns-then-name-lt1
unfolding name_right
returns-then-name-lt1 c = rw (lt-leb _ _ c.if-name-lt1.true)

pub returns-then-name-gt-NAME_LIMIT : goal.returns-then-name-gt-NAME_LIMIT
unfolding name_right
returns-then-name-gt-NAME_LIMIT c = let n = length c.args.name.now in rw (lt-leb n name_limit (omega (arith, c.if-name-gt-NAME_LIMIT.true)), and-false)

pub returns : goal.returns
unfolding name_right
returns c =
    let n = length c.args.name.now in
    rw (le-leb 1 n c.if-name-lt1.false, le-leb n name_limit (omega (arith, c.if-name-gt-NAME_LIMIT.false))) c.proper_text.ensures
