-- `last_column`: four bytes of the inverse S-box, and the key's word.
-- Assumes nothing.
use mathlib.Core.Path.{◌∙◌, ap}
use Rattle.octets.proofs.Words.{renamed, xor_bytes, self}
use Rattle.aes_inverse.specs.InverseSBox.{inverse_sbox}
use Rattle.aes_inverse.proofs.block.last_column.Goals as goal

pub returns : goal.returns
returns c =
    let x = c.args in
    xor_bytes
    (renamed c.join.ensures.has_bytes
    (c.sub.ensures.0 ∙ ap inverse_sbox c.byte0.ensures)
    (c.sub-2.ensures.0 ∙ ap inverse_sbox c.byte1.ensures)
    (c.sub-3.ensures.0 ∙ ap inverse_sbox c.byte2.ensures)
    (c.sub-4.ensures.0 ∙ ap inverse_sbox c.byte3.ensures))
    (self x.k)
