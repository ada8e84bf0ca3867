-- `crypt`: after each turn the first j bytes of out are those of the text.
-- Assumes nothing.
use Rattle.std.proofs.Common.{◌≡◌, ◌-◌, ◌≤◌, length, drop}
use Rattle.octets.specs.Bytes.{filled}
use Rattle.aes_spec.specs.Cipher.{cipher}
use Rattle.aes.specs.Blocks.{state}
use Rattle.ctr.specs.Ctr as spec
use Rattle.ctr.proofs.crypt.Given as goal

abbrev pub invariant-loop-j : goal.invariant-loop-j
invariant-loop-j g l = (l.j ≤ length l.initial.out) × (length l.out ≡ length l.initial.out) × (l.out ≡ filled (drop l.lo (spec.ctr g.C.Counter.inc (cipher 14 l.w) (state l.first) l.src)) l.j l.initial.out)

abbrev pub decreases-loop-j : goal.decreases-loop-j
decreases-loop-j g l = length l.initial.out - l.j
