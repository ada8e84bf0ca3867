-- `write_opened`: its three pieces, one after the other.
-- Assumes nothing.
use mathlib.Core.List.{◌++◌}
use Rattle.check_line.specs.Line.{decimal, opened_text, in_text, chunks_text, opened_line}
use Rattle.check_line.proofs.Pieces.{three}
use Rattle.check_line.proofs.line.write_opened.Goals as goal

pub returns : goal.returns
unfolding opened_line
returns c =
    let u = c.put_field-a in
    let v = c.put_field-b in
    let w = c.copy_at in
    three (opened_text ++ decimal c.args.n) (in_text ++ decimal c.args.k) chunks_text c.args.line.now u.new.line v.new.line w.new.dst u.result v.result
    u.ensures.0 u.ensures.1 v.ensures.0 v.ensures.1 w.ensures
