-- `small_sigma1`: the standard's form.
-- Assumes nothing.
use Rattle.sha256.specs.Operations.{rotr, σ1}
use Rattle.sha256.proofs.operations.small_sigma1.Goals as goal

pub returns : goal.returns
unfolding rotr σ1
returns c = cc
