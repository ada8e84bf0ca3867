-- `encrypt`: before the round n the state is that of the rounds before it.
-- Assumes nothing.
use Prim.Native.Nat.{◌-◌}
use mathlib.Core.Path.{◌≡◌}
use Rattle.aes_spec.specs.Cipher.{after_rounds}
use Rattle.aes.specs.Blocks.{state}
use Rattle.aes.proofs.block.encrypt.Given as goal

abbrev pub invariant-loop-n : goal.invariant-loop-n
invariant-loop-n l = state l.s ≡ after_rounds l.w (state l.initial.s) (l.n - 1)
