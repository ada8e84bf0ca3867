-- `decode_body`: after i turns i groups are read; then the end goes to the rest of the buffer.
-- Assumes nothing.
use mathlib.Core.Path.{◌≡◌}
use lib.ListN.{length}
use Rattle.encoding.proofs.Groups.{written}
use Rattle.encoding.proofs.Texts.{bytes_of}
use Rattle.encoding.proofs.base64url.decode_body.Given as goal

abbrev pub invariant-loop-i : goal.invariant-loop-i
invariant-loop-i l = (length l.out ≡ length l.initial.out) × (l.out ≡ written bytes_of 4 3 l.text l.initial.out l.i)
