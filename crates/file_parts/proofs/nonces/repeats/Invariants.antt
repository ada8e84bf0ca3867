-- `repeats`: whether two of all are equal is whether two of those from i on are.
-- Assumes nothing.
use Prim.Native.Nat.{◌-◌, ◌*◌, ◌≤◌}
use mathlib.Core.Path.{◌≡◌}
use lib.ListN.{drop}
use Rattle.frame.specs.Layout.{repeats}
use Rattle.file_parts.proofs.nonces.repeats.Given as goal

abbrev pub invariant-loop-i : goal.invariant-loop-i
invariant-loop-i l = (l.i ≤ l.k) × (repeats l.w l.k l.nonces ≡ repeats l.w (l.k - l.i) (drop (l.w * l.i) l.nonces))
