-- `small_sigma0`: the standard's form.
-- Assumes nothing.
use Rattle.sha256.specs.Operations.{rotr, σ0}
use Rattle.sha256.proofs.operations.small_sigma0.Goals as goal

pub returns : goal.returns
unfolding rotr σ0
returns c = cc
