-- `block_of`: a whole block, or the rest of s over zeros.
-- Assumes nothing.
use Prim.Native.Nat.{◌*◌}
use mathlib.Core.Path.{refl, ◌∙◌}
use native.Mathlib.Omega.{arith}
use lib.ListN.{length}
use Rattle.octets.proofs.Lists.{part-rest}
use Rattle.gcm.proofs.Hashing.{block-whole, block_last}
use Rattle.gcm.proofs.ghash.block_of.Goals as goal

pub returns-then-s-a-lt16 : goal.returns-then-s-a-lt16
returns-then-s-a-lt16 c =
    let x = c.args in
    let s = x.s.now in
    let p = part-rest s (length s) (16 * x.i) refl in
    (rw p at c.padded.ensures) ∙ block_last s x.i (omega arith) (omega arith)

pub returns : goal.returns
returns c = let x = c.args in c.block_at.ensures ∙ block-whole x.s.now x.i (omega arith)
