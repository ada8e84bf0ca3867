-- `times`: the product, reduced.
-- Assumes nothing.
use mathlib.Core.Path.{◌∙◌}
use Rattle.gcm.proofs.table.times.Goals as goal

pub returns : goal.returns
returns c h e = c.reduce.ensures ∙ c.product.ensures h e
