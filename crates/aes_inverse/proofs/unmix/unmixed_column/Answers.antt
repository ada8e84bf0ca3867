-- `unmixed_column`: the multiples of four bytes, rotated.
-- Assumes nothing.
use mathlib.Core.Path.{subst}
use Rattle.octets.specs.Words.{b0, b1, b2, b3}
use Rattle.aes_inverse.proofs.Unmixing.{Multiples, summed}
use Rattle.aes_inverse.proofs.unmix.unmixed_column.Goals as goal

pub returns : goal.returns
returns c =
    let w = c.args.w in
    summed (b0 w) (b1 w) (b2 w) (b3 w)
    (subst (Multiples c.multiples.result) c.byte0.ensures c.multiples.ensures)
    (subst (Multiples c.multiples-2.result) c.byte1.ensures c.multiples-2.ensures)
    (subst (Multiples c.multiples-3.result) c.byte2.ensures c.multiples-3.ensures)
    (subst (Multiples c.multiples-4.result) c.byte3.ensures c.multiples-4.ensures)
    c.rotated_sum.ensures
