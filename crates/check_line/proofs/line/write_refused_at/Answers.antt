-- `write_refused_at`: its three pieces, one after the other.
-- Assumes nothing.
use mathlib.Core.List.{◌++◌}
use Rattle.check_line.specs.Line.{decimal, refused_text, at_text, line_end, refused_at_line}
use Rattle.check_line.proofs.Pieces.{three}
use Rattle.check_line.proofs.line.write_refused_at.Goals as goal

pub returns : goal.returns
unfolding refused_at_line
returns c =
    let u = c.put_field-a in
    let v = c.put_field-b in
    let w = c.copy_at in
    three (refused_text ++ decimal c.args.row) (at_text ++ decimal c.args.i) line_end c.args.line.now u.new.line v.new.line w.new.dst u.result v.result
    u.ensures.0 u.ensures.1 v.ensures.0 v.ensures.1 w.ensures
