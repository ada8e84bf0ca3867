-- `nonce`: piece i of w bytes.
-- Assumes nothing.
use Prim.Native.Nat.{◌+◌, ◌*◌}
use mathlib.Core.Path.{◌∙◌}
use native.Mathlib.Omega.{arith}
use Rattle.frame.proofs.Steps.{piece}
use Rattle.file_parts.proofs.nonces.nonce.Goals as goal

pub returns : goal.returns
returns c =
    let x = c.args in
    let p = piece x.w (x.w * x.i) (x.w * x.i + x.w) x.nonces.now (omega arith) (omega arith) in
    (p.0, p.1 ∙ omega arith)
