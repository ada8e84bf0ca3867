-- `store`: before the word i the bytes of the words before it stand in their places.
-- Assumes nothing.
use Rattle.std.proofs.Common.{◌≡◌, ◌*◌}
use Rattle.std.proofs.Math.Seq.{paste}
use Rattle.octets.specs.Words.{word_bytes}
use Rattle.key_wrap.proofs.store.store.Given as goal

abbrev pub invariant-loop-i : goal.invariant-loop-i
invariant-loop-i l = l.out ≡ paste l.initial.out 0 (word_bytes l.words) (4 * l.i)
