-- The sum of two blocks, by halves.
-- Assumes nothing.
use mathlib.Core.Path.{sym}
use native.Mathlib.Omega.{arith}
use lib.Bits.{xor_block}
use Rattle.gcm.proofs.field.ElementBitXor.bitxor.Goals as goal

pub returns : goal.returns
returns c =
    let x = c.args.self in
    let y = c.args.rhs in
    sym (xor_block 64 x.hi y.hi x.lo y.lo (omega arith) (omega arith))
