-- `fill`: at each turn the entries below i are right.
-- Assumes nothing.
use Rattle.gcm.specs.Elements.{value}
use Rattle.gcm.specs.Table.{Entries}
use Rattle.gcm.proofs.table.fill.Given as goal

abbrev pub invariant-loop-i : goal.invariant-loop-i
invariant-loop-i l = Entries (value l.h) l.m l.i
