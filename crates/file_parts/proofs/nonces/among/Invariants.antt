-- `among`: whether x is among all is whether it is among those from i on.
-- Assumes nothing.
use Prim.Native.Nat.{◌-◌, ◌*◌, ◌≤◌}
use mathlib.Core.Path.{◌≡◌}
use lib.ListN.{drop}
use Rattle.frame.specs.Layout.{among}
use Rattle.file_parts.proofs.nonces.among.Given as goal

abbrev pub invariant-loop-i : goal.invariant-loop-i
invariant-loop-i l = (l.i ≤ l.k) × (among l.w l.k l.x l.nonces ≡ among l.w (l.k - l.i) l.x (drop (l.w * l.i) l.nonces))
