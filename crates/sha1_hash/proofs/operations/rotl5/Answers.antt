-- `rotl5`: the standard's form.
-- Assumes nothing.
use Rattle.sha1_hash.specs.Operations.{rotl}
use Rattle.sha1_hash.proofs.operations.rotl5.Goals as goal

pub returns : goal.returns
unfolding rotl
returns c = cc
