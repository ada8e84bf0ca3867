-- A number as four words.
-- Assumes nothing.
use native.Mathlib.Omega.{arith}
use Rattle.octets.proofs.BigEndian.{be_halves}
use Rattle.gcm.proofs.ghash.BlockFromElement.from.Goals as goal

pub returns : goal.returns
returns c =
    let x = c.args.x in
    be_halves x.hi x.lo (omega arith) (omega arith)
