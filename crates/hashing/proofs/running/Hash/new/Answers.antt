-- `new`: nothing is hashed and nothing waits.
-- Assumes nothing.
use Rattle.std.proofs.Common.{refl}
use Rattle.hashing.specs.Message.{hash_from}
use Rattle.hashing.proofs.running.Hash.new.Goals as goal

pub returns : goal.returns
unfolding hash_from
returns g c = record { hashed = c.initial.ensures; rest = refl; count = refl }
