-- `extend`: after the turn t the first t + 1 words are the schedule's.
-- Assumes nothing.
use Rattle.std.proofs.Common.{◌≡◌, ◌-◌, take}
use Rattle.hashing.specs.Schedule.{extended}
use Rattle.sha1_hash.specs.Compression.{next_word}
use Rattle.sha1_hash.proofs.block.extend.Given as goal

abbrev pub invariant-loop-t : goal.invariant-loop-t
invariant-loop-t l = take l.t l.w ≡ extended next_word (take 16 l.initial.w) (l.t - 16)
