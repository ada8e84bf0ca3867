-- `last_round`: four columns, each with its word of the key.
-- Assumes nothing.
use mathlib.Core.Path.{◌∙◌}
use Rattle.octets.specs.Words.{word_bytes}
use Rattle.octets.specs.Xors.{xors}
use Rattle.octets.proofs.Words.{bytes_are}
use Rattle.aes.specs.Blocks.{state}
use Rattle.aes.proofs.Ciphers.{add_round_key_lem}
use Rattle.aes_inverse.specs.InverseCipher.{inv_shift_rows, inv_sub_bytes}
use Rattle.aes_inverse.proofs.block.last_round.Goals as goal

pub returns : goal.returns
unfolding word_bytes xors inv_shift_rows inv_sub_bytes
returns c =
    let x = c.args in
    bytes_are c.last_column.ensures c.last_column-2.ensures c.last_column-3.ensures c.last_column-4.ensures
    ∙ add_round_key_lem x.w.now 0 (inv_sub_bytes (inv_shift_rows (state x.x))) c.round_key-k.ensures
