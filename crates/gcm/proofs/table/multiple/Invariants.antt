-- `multiple`: at each turn the product is what the definition makes of the bits that are left.
-- Assumes nothing.
use Prim.Native.Nat.{◌-◌}
use mathlib.Core.Path.{◌≡◌}
use Rattle.gcm.specs.Elements.{value}
use Rattle.gcm.specs.Field as spec
use Rattle.gcm.specs.Digits.{part}
use Rattle.gcm.proofs.table.multiple.Given as goal

abbrev pub invariant-loop-n : goal.invariant-loop-n
invariant-loop-n l = part 4 l.i (value l.initial.v) ≡ spec.mul_from (4 - l.n) l.i (value l.z) (value l.v)
