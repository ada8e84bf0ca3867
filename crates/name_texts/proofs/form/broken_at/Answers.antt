-- `broken_at`: the walk through the stem stops, and behind a whole stem the end is due.
-- Assumes nothing.
use mathlib.Core.Path.{sym, ◌∙◌}
use native.Mathlib.Omega.{arith}
use lib.Seq.{length-take-le}
use Rattle.name_texts.proofs.Stems.{limit-low, inside, leads, in_stem, end_inside, at-end}
use Rattle.name_texts.proofs.form.broken_at.Goals as goal

pub overflow_mul-limit : goal.overflow_mul-limit
overflow_mul-limit c = omega (arith, limit-low c.args.most c.stem_limit-limit.result c.stem_limit-limit.ensures)

pub slice_bounds-whole_stem-end : goal.slice_bounds-whole_stem-end
slice_bounds-whole_stem-end c =
    sym (length-take-le c.stop_from-j.result c.args.text.now (inside c.args.most _ c.stem_limit-limit.ensures c.args.text.now c.args.n c.requires.leading _ _ c.min-from.ensures c.stop_from-j.ensures))

pub whole_stem-requires : goal.whole_stem-requires
whole_stem-requires c = record { leading = leads c.args.most _ c.stem_limit-limit.ensures c.args.text.now c.args.n c.requires.leading _ _ c.min-from.ensures c.stop_from-j.ensures _ c.min-k.ensures }

pub returns-then-not-whole_stem : goal.returns-then-not-whole_stem
returns-then-not-whole_stem c =
    in_stem c.args.most _ c.stem_limit-limit.ensures c.args.text.now c.args.n c.requires.leading _ _ c.min-from.ensures c.stop_from-j.ensures (sym c.if-not-whole_stem.true ∙ c.whole_stem.ensures)

pub slice_bounds-common-count : goal.slice_bounds-common-count
slice_bounds-common-count c = omega (arith, inside c.args.most _ c.stem_limit-limit.ensures c.args.text.now c.args.n c.requires.leading _ _ c.min-from.ensures c.stop_from-j.ensures)

pub slice_bounds-common-start : goal.slice_bounds-common-start
slice_bounds-common-start c = omega (arith, inside c.args.most _ c.stem_limit-limit.ensures c.args.text.now c.args.n c.requires.leading _ _ c.min-from.ensures c.stop_from-j.ensures)

pub overflow_add-result : goal.overflow_add-result
overflow_add-result c =
    omega (arith, end_inside c.args.most _ c.stem_limit-limit.ensures c.args.text.now c.args.n c.requires.leading _ _ c.min-from.ensures c.stop_from-j.ensures _ c.common.ensures)

pub returns : goal.returns
returns c =
    at-end c.args.most _ c.stem_limit-limit.ensures c.args.text.now c.args.n c.requires.leading _ _ c.min-from.ensures c.stop_from-j.ensures _ c.common.ensures (sym c.if-not-whole_stem.false ∙ c.whole_stem.ensures)
