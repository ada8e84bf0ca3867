-- `ch`: the short form.
-- Assumes nothing.
use Rattle.hashing.proofs.ShortForms.{ch-short}
use Rattle.hashing.proofs.operations.ch.Goals as goal

pub returns : goal.returns
returns c = ch-short c.args.x c.args.y c.args.z c.ranges.x.fits c.ranges.z.fits
