-- `keyed`: the first block of the hash.
-- Assumes nothing.
use Rattle.std.proofs.Common.{[]}
use Rattle.sha256.proofs.Laws.{runs_on}
use Rattle.hmac.proofs.keyed.Goals as goal

pub returns : goal.returns
returns c = rw c.xor_into.ensures at (runs_on _ _ [] _ c.new.ensures c.update.ensures)
