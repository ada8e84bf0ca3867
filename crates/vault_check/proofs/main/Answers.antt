-- `main`: the line lies within its buffer.
-- Assumes nothing.
use Rattle.std.proofs.Common.{◌≤◌, arith, sym}
use lib.Seq.{length-take-le}
use Rattle.check_line.proofs.Checks.{written-fits}
use Rattle.vault_check.proofs.main.Goals as goal

pub slice_bounds-line-end : goal.slice_bounds-line-end
slice_bounds-line-end c =
    let u = c.check_line-written in
    let h : u.result ≤ 25 = written-fits u.result _ _ _ _ _ u.ensures in
    omega (arith, u.auto.line)

pub slice_bounds-write_all-end : goal.slice_bounds-write_all-end
slice_bounds-write_all-end c =
    let u = c.check_line-written in
    let h : u.result ≤ 25 = written-fits u.result _ _ _ _ _ u.ensures in
    sym (length-take-le u.result u.new.line (omega (arith, u.auto.line)))
