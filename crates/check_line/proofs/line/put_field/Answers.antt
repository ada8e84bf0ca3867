-- `put_field`: the text, and behind it the number.
-- Assumes nothing.
use mathlib.Core.Path.{ap, ◌∙◌}
use Prim.Native.Nat.{◌+◌}
use native.Mathlib.Omega.{arith}
use lib.ListN.{length, length-append}
use Rattle.octets.specs.Bytes.{placed}
use Rattle.check_line.specs.Line.{decimal}
use Rattle.octets.proofs.Lists.{placed-placed}
use Rattle.check_line.proofs.line.put_field.Goals as goal

pub returns : goal.returns
returns c =
    let x = c.args in
    let u = c.put_decimal in
    let l = length-append x.text.now (decimal x.n) in (
      omega (arith, u.ensures.0),
      u.ensures.1 ∙ ap (placed (decimal x.n) (x.at + length x.text.now)) c.copy_at.ensures
          ∙ placed-placed x.text.now (decimal x.n) x.line.now x.at (omega (arith, c.requires)),
    )
