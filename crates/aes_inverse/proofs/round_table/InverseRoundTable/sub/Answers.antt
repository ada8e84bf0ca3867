-- `sub`: the multiples add up to the entry.
-- Assumes nothing.
use mathlib.Core.Path.{◌∙◌, ap, ap₂}
use lib.Bits.{bit_xor}
use Rattle.aes_spec.specs.SBox.{sbox}
use Rattle.aes_inverse.specs.InverseSBox.{inverse_sbox}
use Rattle.aes_inverse.proofs.InverseSBoxRule.{inverse-byte}
use Rattle.aes_inverse.proofs.InverseRoundTableRule.{multiples_add}
use Rattle.aes_inverse.proofs.round_table.InverseRoundTable.sub.Goals as goal

pub returns : goal.returns
returns c =
    let x = c.args.x in
    let e = c.entry-e.ensures in
    let r =
    ap₂ bit_xor (ap₂ bit_xor (ap₂ bit_xor (c.byte0.ensures ∙ e.0.at0) (c.byte1.ensures ∙ e.0.at1)) (c.byte2.ensures ∙ e.0.at2)) (c.byte3.ensures ∙ e.0.at3)
    ∙ multiples_add (inverse_sbox x) (inverse-byte x) in
    (r, ap sbox r ∙ e.1)
