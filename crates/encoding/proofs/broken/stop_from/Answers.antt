-- `stop_from`: the walk from the start is the walk from the character reached.
-- Assumes nothing.
use mathlib.Core.Path.{sym, ◌∙◌}
use native.Mathlib.Omega.{arith}
use mathlib.Core.Path.{◌≡◌}
use lib.ListN.{length}
use lib.Dec.{leb}
use Rattle.encoding.proofs.Fitting.{stop-here, stop-next, stop-end}
use Rattle.encoding.proofs.broken.stop_from.Goals as goal

pub returns-then-not-fits : goal.returns-then-not-fits
returns-then-not-fits c =
    let x = c.args in
    sym (c.loop-i.invariant ∙ stop-here x.padded x.least (λ n. leb n x.most) x.text.now c.loop-i.i c.loop-i-test.true (sym c.fits.ensures ∙ c.if-not-fits.true))

pub loop-i-preserved : goal.loop-i-preserved
loop-i-preserved c =
    let x = c.args in
    c.loop-i.invariant ∙ stop-next x.padded x.least (λ n. leb n x.most) x.text.now c.loop-i.i c.loop-i-test.true (sym c.fits.ensures ∙ c.if-not-fits.false)

pub returns : goal.returns
returns c =
    let x = c.args in
    let e : c.loop-i.i ≡ length x.text.now = omega arith in
    sym (c.loop-i.invariant ∙ stop-end x.padded x.least (λ n. leb n x.most) x.text.now c.loop-i.i (omega arith) ∙ e)
