-- `write_range`: each turn fills the part of the buffer that lies in one chunk.
-- Assumes nothing.
use Prim.Native.Nat.{◌-◌, ◌≤◌}
use mathlib.Core.Path.{◌≡◌}
use lib.ListN.{length, drop}
use Rattle.octets.specs.Bytes.{filled}
use Rattle.aes_spec.specs.Cipher.{cipher}
use Rattle.frame.specs.Layout.{all_parts}
use Rattle.vault.specs.Vault.{sizes_of}
use Rattle.file_parts.specs.Under.{plain_under}
use Rattle.file_range.proofs.range.write_range.Given as goal

abbrev pub invariant-loop-done : goal.invariant-loop-done
invariant-loop-done l = (l.done ≤ l.count) × (length l.out ≡ length l.initial.out) × (l.out ≡ filled (drop l.from (all_parts (sizes_of l.combo) (plain_under l.combo (cipher 14 l.w)) l.file)) l.done l.initial.out)

abbrev pub decreases-loop-done : goal.decreases-loop-done
decreases-loop-done l = l.count - l.done
