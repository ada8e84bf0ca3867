-- `absorb`: at each turn the hash is what the definition makes of the blocks that are left.
-- Assumes nothing.
use Prim.Native.Nat.{ℕ}
use mathlib.Core.Path.{◌≡◌}
use lib.ListN.{length}
use Rattle.ctr.specs.Ctr.{blocks}
use Rattle.gcm.specs.Elements.{value}
use Rattle.gcm.specs.Table.{Entries}
use Rattle.gcm.specs.Gcm as spec
use Rattle.gcm.proofs.Hashing.{rest}
use Rattle.gcm.proofs.ghash.absorb.Given as goal

abbrev pub invariant-loop-i : goal.invariant-loop-i
invariant-loop-i l = (h : ℕ) → Entries h l.m 16 → spec.ghash_from h (value l.initial.z) (spec.pad l.s) (blocks (length l.s)) ≡ rest h l.s (value l.z) l.i
