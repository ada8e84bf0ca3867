-- `clear`: piece i of 32,768 bytes, fewer at the end.
-- Assumes nothing.
use Prim.Native.Nat.{◌*◌}
use mathlib.Core.Path.{◌∙◌}
use native.Mathlib.Omega.{arith}
use Rattle.frame.proofs.Steps.{piece}
use Rattle.file_write.proofs.chunks.clear.Goals as goal

pub returns : goal.returns
returns c =
    let x = c.args in
    let p = piece 32768 (32768 * x.i) c.min-e.result x.cleartext.now (omega arith) (omega (arith, c.min-e.ensures)) in
    (p.0, p.1 ∙ omega (arith, c.min-e.ensures))
