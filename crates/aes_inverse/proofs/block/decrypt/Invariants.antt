-- `decrypt`: the rounds that are left, from here, are all rounds from the start.
-- Assumes nothing.
use Prim.Native.Nat.{◌-◌}
use mathlib.Core.Path.{◌≡◌}
use Rattle.aes.specs.Blocks.{state}
use Rattle.aes_inverse.specs.InverseCipher.{back_rounds}
use Rattle.aes_inverse.proofs.block.decrypt.Given as goal

abbrev pub invariant-loop-i : goal.invariant-loop-i
invariant-loop-i l = back_rounds l.w (state l.s) (13 - l.i) ≡ back_rounds l.w (state l.initial.s) 13
