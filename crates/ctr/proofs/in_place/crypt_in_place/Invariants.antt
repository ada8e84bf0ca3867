-- `crypt_in_place`: after each turn the first j bytes are those of the text that it becomes.
-- Assumes nothing.
use Rattle.std.proofs.Common.{◌≡◌, ◌-◌, ◌≤◌, length}
use Rattle.octets.specs.Bytes.{filled}
use Rattle.aes_spec.specs.Cipher.{cipher}
use Rattle.aes.specs.Blocks.{state}
use Rattle.ctr.specs.Ctr as spec
use Rattle.ctr.proofs.in_place.crypt_in_place.Given as goal

abbrev pub invariant-loop-j : goal.invariant-loop-j
invariant-loop-j g l = (l.j ≤ length l.initial.text) × (length l.text ≡ length l.initial.text) × (l.text ≡ filled (spec.ctr g.C.Counter.inc (cipher 14 l.w) (state l.first) l.initial.text) l.j l.initial.text)

abbrev pub decreases-loop-j : goal.decreases-loop-j
decreases-loop-j g l = length l.initial.text - l.j
