-- `unwrapped`: the steps that are left, from here, are all steps from the start.
-- Assumes nothing.
use Prim.Native.Nat.{◌-◌}
use mathlib.Core.Path.{◌≡◌}
use Rattle.aes_inverse.specs.InverseCipher.{inv_cipher}
use Rattle.key_wrap.specs.KeyWrap.{unwrap_steps}
use Rattle.octets.specs.Words.{word_bytes}
use Rattle.key_wrap.proofs.steps.unwrapped.Given as goal

abbrev pub invariant-loop-n : goal.invariant-loop-n
invariant-loop-n l = unwrap_steps (inv_cipher 14 l.w) (l.n - 1) (word_bytes l.x) ≡ unwrap_steps (inv_cipher 14 l.w) 24 (word_bytes l.initial.x)
