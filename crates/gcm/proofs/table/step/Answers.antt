-- `step`: the places to the right, and the two entries.
-- Assumes nothing.
use Prim.Native.Nat.{ℕ, ◌*◌, ◌^◌}
use mathlib.Core.Path.{◌∙◌, ap₂}
use lib.Bits.{bit_xor}
use Rattle.gcm.proofs.Products.{pair}
use Rattle.gcm.proofs.table.step.Goals as goal

pub returns : goal.returns
returns c =
    c.plus.ensures
    ∙ ap₂ bit_xor c.right8.ensures (ap₂ (λ (x y : ℕ). pair x y * 2 ^ 64) c.entry.ensures c.entry-2.ensures)
