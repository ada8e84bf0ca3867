-- `clash`: two lent nonces, and then those in the file.
-- Assumes nothing.
use Prim.Native.Nat.{◌*◌}
use mathlib.Core.Path.{ap}
use native.Mathlib.Omega.{arith}
use Rattle.frame.specs.Layout.{Sizes}
use Rattle.file_mend.proofs.nonces.clash.Goals as goal

pub repeats-requires : goal.repeats-requires
repeats-requires c = omega (arith, ap (λ (z : Sizes). z.nonce * c.args.k) c.sizes_of.ensures, c.requires.0)
