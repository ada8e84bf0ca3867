-- `column`: four entries of the table, rotated, and the key's word.
-- Assumes nothing.
use mathlib.Core.Path.{subst}
use Rattle.octets.specs.Words.{b0, b1, b2, b3}
use Rattle.aes.proofs.Columns.{Entry, column}
use Rattle.aes.proofs.block.column.Goals as goal

pub returns : goal.returns
returns c =
    let x = c.args in
    column (b0 x.a) (b1 x.b) (b2 x.c) (b3 x.d) x.k
    (subst (Entry c.entry.result) c.byte0.ensures c.entry.ensures.0)
    (subst (Entry c.entry-2.result) c.byte1.ensures c.entry-2.ensures.0)
    (subst (Entry c.entry-3.result) c.byte2.ensures c.entry-3.ensures.0)
    (subst (Entry c.entry-4.result) c.byte3.ensures c.entry-4.ensures.0)
    c.rotated_sum.ensures
