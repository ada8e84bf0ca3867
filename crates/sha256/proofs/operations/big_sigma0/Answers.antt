-- `big_sigma0`: the standard's form.
-- Assumes nothing.
use Rattle.sha256.specs.Operations.{rotr, Σ0}
use Rattle.sha256.proofs.operations.big_sigma0.Goals as goal

pub returns : goal.returns
unfolding rotr Σ0
returns c = cc
