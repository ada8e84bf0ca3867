-- `after_blocks`: i blocks are hashed.
-- Assumes nothing.
use Rattle.std.proofs.Common.{◌≡◌}
use Rattle.hashing.specs.Message.{hash_from}
use Rattle.sha1_hash.specs.Compression.{compress}
use Rattle.sha1_hash.proofs.WordsHashValue.after_blocks.Given as goal

abbrev pub invariant-loop-i : goal.invariant-loop-i
invariant-loop-i l = l.x ≡ hash_from compress l.initial.x l.s l.i
