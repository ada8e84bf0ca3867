-- `wrapped`: before step n the registers are those of the steps before it.
-- Assumes nothing.
use Prim.Native.Nat.{◌-◌}
use mathlib.Core.Path.{◌≡◌}
use Rattle.aes_spec.specs.Cipher.{cipher}
use Rattle.key_wrap.specs.KeyWrap.{wrap_steps}
use Rattle.octets.specs.Words.{word_bytes}
use Rattle.key_wrap.proofs.steps.wrapped.Given as goal

abbrev pub invariant-loop-n : goal.invariant-loop-n
invariant-loop-n l = word_bytes l.x ≡ wrap_steps (cipher 14 l.w) (l.n - 1) (word_bytes l.initial.x)
