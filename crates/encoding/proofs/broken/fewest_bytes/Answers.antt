-- `fewest_bytes`: by the characters of the last group, and by their pad bits.
-- Assumes nothing.
use mathlib.Core.Path.{◌≡◌, sym}
use Prim.Native.Nat.{◌%◌}
use native.Mathlib.Omega.{arith}
use Rattle.encoding.proofs.Closing.{fewest_none, fewest_one, fewest_two, fewest_two_more, fewest_three, fewest_three_more}
use Rattle.encoding.proofs.broken.fewest_bytes.Goals as goal

pub returns-then-n-eq0 : goal.returns-then-n-eq0
returns-then-n-eq0 c = let x = c.args in sym (fewest_none x.n x.v c.if-n-eq0.true)

pub returns-then-n-eq1 : goal.returns-then-n-eq1
returns-then-n-eq1 c = let x = c.args in sym (fewest_one x.n x.v c.if-n-eq1.true)

pub returns-then-v-eq0 : goal.returns-then-v-eq0
returns-then-v-eq0 c = let x = c.args in sym (fewest_two x.n x.v c.if-n-eq2.true c.if-v-eq0.true)

pub returns-then-n-eq2 : goal.returns-then-n-eq2
returns-then-n-eq2 c = let x = c.args in sym (fewest_two_more x.n x.v c.if-n-eq2.true c.if-v-eq0.false)

-- The last group has three characters.
pub returns-then-v-eq0-2 : goal.returns-then-v-eq0-2
returns-then-v-eq0-2 c =
    let x = c.args in
    let r : x.n % 4 ≡ 3 = omega (arith, c.if-n-eq0.false, c.if-n-eq1.false, c.if-n-eq2.false) in
    sym (fewest_three x.n x.v r c.if-v-eq0-2.true)

pub returns : goal.returns
returns c =
    let x = c.args in
    let r : x.n % 4 ≡ 3 = omega (arith, c.if-n-eq0.false, c.if-n-eq1.false, c.if-n-eq2.false) in
    sym (fewest_three_more x.n x.v r c.if-v-eq0-2.false)
