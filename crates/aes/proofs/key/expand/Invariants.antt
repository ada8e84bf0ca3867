-- `expand`: the first i words are the schedule's.
-- Assumes nothing.
use Prim.Native.Nat.{◌-◌}
use mathlib.Core.Path.{◌≡◌}
use mathlib.Core.List.{◌++◌}
use lib.ListN.{drop}
use Rattle.aes_spec.specs.KeyExpansion.{expansion}
use Rattle.aes.proofs.key.expand.Given as goal

abbrev pub invariant-loop-i : goal.invariant-loop-i
invariant-loop-i l = l.w ≡ expansion 8 l.key (l.i - 8) ++ drop l.i l.initial.w
