-- `big_sigma1`: the standard's form.
-- Assumes nothing.
use Rattle.sha256.specs.Operations.{rotr, Σ1}
use Rattle.sha256.proofs.operations.big_sigma1.Goals as goal

pub returns : goal.returns
unfolding rotr Σ1
returns c = cc
