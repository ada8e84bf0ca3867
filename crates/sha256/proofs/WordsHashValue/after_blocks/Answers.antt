-- `after_blocks`: i blocks are hashed.
-- Assumes nothing.
use Rattle.std.proofs.Common.{refl, ◌∙◌, add-one}
use Rattle.hashing.specs.Message.{hash_from}
use Rattle.sha256.proofs.WordsHashValue.after_blocks.Goals as goal

pub loop-i-init : goal.loop-i-init
unfolding hash_from
loop-i-init c = refl

pub loop-i-preserved : goal.loop-i-preserved
unfolding hash_from
loop-i-preserved c = c.compress-y.ensures ∙ rw (add-one, c.loop-i.invariant)
