-- `scale`: 0 times the element, or once.
-- Assumes nothing.
use Prim.Native.Nat.{ℕ, zero, suc, ◌*◌, ◌^◌, ◌<◌}
use native.Mathlib.Omega.{arith}
use Rattle.gcm.proofs.field.scale.Goals as goal

times : (b v m : ℕ) → b < 2 → v < m → b * v < m
times zero v m h k = omega arith
times (suc zero) v m h k = omega arith
times (suc (suc b)) v m h k = absurd (omega arith)

pub overflow_mul-result : goal.overflow_mul-result
overflow_mul-result c = record { fits = times c.args.bit c.args.v.hi (2 ^ 64) (omega arith) (omega arith) }

pub overflow_mul-result-2 : goal.overflow_mul-result-2
overflow_mul-result-2 c = record { fits = times c.args.bit c.args.v.lo (2 ^ 64) (omega arith) (omega arith) }
