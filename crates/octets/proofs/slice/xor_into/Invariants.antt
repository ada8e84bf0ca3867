-- `xor_into`: after i turns the first i bytes are those of the sum.
-- Assumes nothing.
use Rattle.std.proofs.Common.{◌≡◌}
use Rattle.octets.specs.Bytes.{filled}
use Rattle.octets.specs.Xors.{xors}
use Rattle.octets.proofs.slice.xor_into.Given as goal

abbrev pub invariant-loop-i : goal.invariant-loop-i
invariant-loop-i l = l.dst ≡ filled (xors l.initial.dst l.src) l.i l.initial.dst
