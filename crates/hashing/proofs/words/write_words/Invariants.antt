-- `write_words`: after i turns the bytes of the first i words stand in their places.
-- Assumes nothing.
use Rattle.std.proofs.Common.{◌≡◌, ◌*◌}
use Rattle.std.proofs.Math.Seq.{paste}
use Rattle.octets.specs.Words.{word_bytes}
use Rattle.hashing.proofs.words.write_words.Given as goal

abbrev pub invariant-loop-i : goal.invariant-loop-i
invariant-loop-i l = l.out ≡ paste l.initial.out l.at (word_bytes l.w) (4 * l.i)
