-- `fill`: at each turn the entries below i are right.
-- Assumes nothing.
use mathlib.Core.Path.{◌≡◌, subst}
use native.Mathlib.Omega.{arith}
use lib.ListN.{length-set}
use Rattle.gcm.specs.Elements.{value}
use Rattle.gcm.specs.Table.{Entries}
use Rattle.gcm.proofs.Products.{entries_none, entries_more}
use Rattle.gcm.proofs.table.fill.Goals as goal

pub loop-i-init : goal.loop-i-init
loop-i-init c = entries_none _ _

pub bounds-m-i-in-loop-i : goal.bounds-m-i-in-loop-i
bounds-m-i-in-loop-i c = simp length-set (omega arith)

pub loop-i-preserved : goal.loop-i-preserved
loop-i-preserved c =
    entries_more _ _ c.loop-i.invariant (omega arith) c.multiple-e.ensures

pub returns : goal.returns
returns c =
    let l = c.loop-i in
    let e : l.i ≡ 16 = omega arith in
    subst (Entries (value c.args.h) l.m) e l.invariant
