-- `encode`: after i turns i groups are written; then the end goes to the rest of the buffer.
-- Assumes nothing.
use Prim.Native.Nat.{◌*◌, ◌≤◌}
use mathlib.Core.Path.{◌≡◌}
use mathlib.Core.Bool.{false}
use lib.ListN.{length}
use Rattle.encoding.specs.Base64url.{encode}
use Rattle.encoding.proofs.Groups.{written}
use Rattle.encoding.proofs.base64url.encode.Given as goal

abbrev pub invariant-loop-i : goal.invariant-loop-i
invariant-loop-i l = (4 * l.n ≤ length l.initial.out) × (length l.out ≡ length l.initial.out) × (l.out ≡ written (encode false) 3 4 l.bytes l.initial.out l.i)
