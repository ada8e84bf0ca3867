-- `write_refused`: its two pieces, one after the other.
-- Assumes nothing.
use mathlib.Core.List.{◌++◌}
use Rattle.check_line.specs.Line.{decimal, refused_text, line_end, refused_line}
use Rattle.check_line.proofs.Pieces.{two}
use Rattle.check_line.proofs.line.write_refused.Goals as goal

pub returns : goal.returns
unfolding refused_line
returns c =
    let u = c.put_field-a in
    let w = c.copy_at in
    two (refused_text ++ decimal c.args.row) line_end c.args.line.now u.new.line w.new.dst u.result u.ensures.0 u.ensures.1 w.ensures
