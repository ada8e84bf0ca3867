-- `tails_at`: tail after tail, the tails still awaited stand here exactly when all that were awaited stand at the start.
-- Assumes nothing.
use Prim.Native.Nat.{◌+◌, ◌-◌, ◌≤◌}
use mathlib.Core.Path.{◌≡◌}
use lib.ListN.{length, drop}
use Rattle.utf8.specs.Continued.{tails_from, Passed}
use Rattle.utf8.proofs.tails_at.Given as goal

abbrev pub invariant-loop-k : goal.invariant-loop-k
invariant-loop-k l =
    (l.j + l.n ≤ length l.s)
    × (0x80 ≤ l.low)
    × (tails_from l.n l.initial.low l.initial.high (drop l.j l.s) ≡ tails_from (l.n - l.k) l.low l.high (drop (l.j + l.k) l.s))
    × Passed l.s l.j (l.j + l.k)
