-- `name_length`: the tests of the text form in order, and the length.
-- Assumes nothing.
use native.Mathlib.Omega.{arith}
use mathlib.Core.Path.{◌∙◌}
use Rattle.name_texts.proofs.Measured.{other-end, leading_of_stem, not_accepted, too_few, too_many, in_form}
use Rattle.name_texts.proofs.form.name_length.Goals as goal

pub returns-in_err-stem : goal.returns-in_err-stem
returns-in_err-stem c = c.from_residual.ensures ∙ other-end c.args.text.now c.in_err-stem.ensures.cases

pub measure_from-requires : goal.measure_from-requires
measure_from-requires c = record { leading = leading_of_stem c.args.text.now c.in_ok-stem.stem.now c.in_ok-stem.ensures.cases c.args.n c.requires.leading }

pub returns-in_err-m : goal.returns-in_err-m
returns-in_err-m c =
    c.from_residual-in_err-m.ensures ∙ not_accepted c.args.text.now _ c.in_ok-stem.ensures.cases _ c.measure_from.ensures c.in_err-m.ensures.value

pub returns-then-m-lt-LEAST : goal.returns-then-m-lt-LEAST
returns-then-m-lt-LEAST c = too_few c.args.text.now _ c.in_ok-stem.ensures.cases _ _ c.measure_from.ensures c.in_ok-m.ensures.value c.if-m-lt-LEAST.true

pub returns-then-m : goal.returns-then-m
returns-then-m c = too_many c.args.text.now _ c.in_ok-stem.ensures.cases _ _ c.measure_from.ensures c.in_ok-m.ensures.value c.if-m-lt-LEAST.false c.if-m.true

pub returns : goal.returns
returns c = in_form c.args.text.now _ c.in_ok-stem.ensures.cases _ _ c.measure_from.ensures c.in_ok-m.ensures.value c.if-m-lt-LEAST.false (omega (arith, c.if-m.false))
