-- `encode`: after i turns i groups are written.
-- Assumes nothing.
use mathlib.Core.Path.{◌≡◌}
use lib.ListN.{length}
use Rattle.encoding.specs.Base32.{encode}
use Rattle.encoding.proofs.Groups.{written}
use Rattle.encoding.proofs.base32.encode.Given as goal

abbrev pub invariant-loop-i : goal.invariant-loop-i
invariant-loop-i l = (length l.out ≡ length l.initial.out) × (l.out ≡ written encode 5 8 l.bytes l.initial.out l.i)
