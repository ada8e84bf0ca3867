-- `measure_from`: the bytes that what leads stands for, or where the walk from there stops.
-- Assumes nothing.
use mathlib.Core.Path.{sym, ap, ◌∙◌}
use Rattle.std.proofs.Common.{false, Ok}
use Rattle.encoding.specs.Measures.{answer}
use Rattle.encoding.proofs.Answers.{refused, measured}
use Rattle.encoding.proofs.Leading.{leading_bytes, no_limit}
use Rattle.encoding.proofs.base64url.measure_from.Goals as goal

pub returns-then-accepted : goal.returns-then-accepted
returns-then-accepted c =
    let x = c.args in
    let e = sym c.accepted.ensures ∙ c.if-accepted.true in
    ap Ok (c.decoded_length.ensures ∙ leading_bytes x.padded x.text.now x.n c.requires.leading e) ∙ measured x.padded x.text.now e

pub stop_from-requires : goal.stop_from-requires
stop_from-requires c = record { from_in_bounds = c.requires.leading.inside }

pub returns : goal.returns
returns c =
    let x = c.args in
    ap (answer false 0) (c.stop_from.ensures ∙ no_limit x.padded x.text.now x.n c.requires.leading)
    ∙ refused x.padded x.text.now (sym c.accepted.ensures ∙ c.if-accepted.false)
