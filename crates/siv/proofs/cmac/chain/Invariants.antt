-- `chain`: at each turn the chain is what the definition makes of the blocks that are left.
-- Assumes nothing.
use Prim.Native.Nat.{◌-◌, ◌*◌}
use mathlib.Core.Path.{◌≡◌}
use lib.ListN.{drop}
use Rattle.aes_spec.specs.Cipher.{cipher}
use Rattle.aes.specs.Blocks.{state}
use Rattle.siv.specs.Cmac as spec
use Rattle.siv.proofs.cmac.chain.Given as goal

abbrev pub invariant-loop-i : goal.invariant-loop-i
invariant-loop-i l = spec.chain (cipher 14 l.w) (state l.initial.x) l.s l.n ≡ spec.chain (cipher 14 l.w) (state l.x) (drop (16 * l.i) l.s) (l.n - l.i)
