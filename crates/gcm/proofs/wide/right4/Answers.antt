-- `right4`: each word, and what falls out of the word before it.
-- Assumes nothing.
use mathlib.Core.Path.{refl}
use native.Mathlib.Omega.{arith}
use Rattle.gcm.proofs.WideNumbers.{sum_fits, four_right}
use Rattle.gcm.proofs.wide.right4.Goals as goal

pub overflow_add-result : goal.overflow_add-result
overflow_add-result c = record { fits = sum_fits 60 4 (omega arith) (omega arith) }

pub overflow_add-result-2 : goal.overflow_add-result-2
overflow_add-result-2 c = record { fits = sum_fits 60 4 (omega arith) (omega arith) }

pub overflow_add-result-3 : goal.overflow_add-result-3
overflow_add-result-3 c = record { fits = sum_fits 60 4 (omega arith) (omega arith) }

pub returns : goal.returns
returns c = let z = c.args.z in four_right 4 60 refl z.a z.b z.c z.d
