-- `last_column`: four bytes of the S-box, and the key's word.
-- Assumes nothing.
use mathlib.Core.Path.{◌∙◌, ap}
use Rattle.octets.specs.Words.{b0, b1, b2, b3}
use Rattle.octets.proofs.Words.{renamed}
use Rattle.aes_spec.specs.SBox.{sbox}
use Rattle.aes.proofs.Columns.{last_column}
use Rattle.aes.proofs.block.last_column.Goals as goal

pub returns : goal.returns
returns c =
    let x = c.args in
    last_column (b0 x.a) (b1 x.b) (b2 x.c) (b3 x.d) x.k (renamed c.join.ensures.has_bytes
    (c.sub.ensures.0 ∙ ap sbox c.byte0.ensures)
    (c.sub-2.ensures.0 ∙ ap sbox c.byte1.ensures)
    (c.sub-3.ensures.0 ∙ ap sbox c.byte2.ensures)
    (c.sub-4.ensures.0 ∙ ap sbox c.byte3.ensures))
