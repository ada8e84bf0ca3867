-- `canonical_end`: by the number of characters.
-- Assumes nothing.
use mathlib.Core.Path.{◌≡◌}
use native.Mathlib.Omega.{arith}
use lib.ListN.{length}
use Rattle.encoding.proofs.Answers.{no_end, end_of_one, end_of_two, end_of_three}
use Rattle.encoding.proofs.base64url.canonical_end.Goals as goal

pub returns-then-text-eq0 : goal.returns-then-text-eq0
returns-then-text-eq0 c = no_end c.args.text.now c.if-text-eq0.true

pub returns-then-text-eq1 : goal.returns-then-text-eq1
returns-then-text-eq1 c = end_of_one c.args.text.now c.if-text-eq1.true

pub returns-then-text-eq2 : goal.returns-then-text-eq2
returns-then-text-eq2 c = end_of_two c.args.text.now c.if-text-eq2.true c.value_of.ensures

pub returns : goal.returns
returns c =
    let t = c.args.text.now in
    let h : length t ≡ 3 = omega arith in
    end_of_three t h c.value_of-2.ensures
