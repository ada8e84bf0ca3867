-- `round`: four columns, each with its word of the key.
-- Assumes nothing.
use mathlib.Core.Path.{◌∙◌}
use Rattle.octets.specs.Words.{word_bytes}
use Rattle.octets.specs.Xors.{xors}
use Rattle.octets.proofs.Words.{bytes_are}
use Rattle.aes_spec.specs.Cipher.{mix_columns, shift_rows, sub_bytes}
use Rattle.aes.specs.Blocks.{state}
use Rattle.aes.proofs.Ciphers.{add_round_key_lem}
use Rattle.aes.proofs.block.round.Goals as goal

pub returns : goal.returns
unfolding word_bytes xors mix_columns shift_rows sub_bytes
returns c =
    let x = c.args in
    bytes_are c.column.ensures c.column-2.ensures c.column-3.ensures c.column-4.ensures
    ∙ add_round_key_lem x.w.now x.n (mix_columns (shift_rows (sub_bytes (state x.x)))) c.round_key-k.ensures
