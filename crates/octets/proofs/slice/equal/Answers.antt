-- `equal`: the library's test of two slices is `same`.
-- Assumes nothing.
use Rattle.std.proofs.Common.{◌∙◌}
use Rattle.octets.proofs.Equality.{pointwise_same}
use Rattle.octets.proofs.slice.equal.Goals as goal

pub returns : goal.returns
returns c = c.eq.ensures ∙ pointwise_same _ _
