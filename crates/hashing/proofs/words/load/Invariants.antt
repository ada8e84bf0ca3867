-- `load`: after t turns the first t words are the block's.
-- Assumes nothing.
use Rattle.std.proofs.Common.{◌≡◌, take, drop}
use Rattle.octets.specs.Words.{words}
use Rattle.hashing.proofs.words.load.Given as goal

abbrev pub invariant-loop-t : goal.invariant-loop-t
invariant-loop-t l = take l.t l.w ≡ words l.t (take 64 (drop l.at l.s))
