-- `column`: four entries of the table, rotated, and the key's word.
-- Assumes nothing.
use Prim.Native.Nat.{ℕ}
use mathlib.Core.Path.{subst}
use Rattle.octets.specs.Words.{b0, b1, b2, b3}
use Rattle.aes_inverse.specs.InverseSBox.{inverse_sbox}
use Rattle.aes_inverse.proofs.Unmixing.{Multiples, summed}
use Rattle.aes_inverse.proofs.RoundColumns.{keyed}
use Rattle.aes_inverse.proofs.block.column.Goals as goal

-- y has the multiples of the inverse S-box's entry of z
abbrev Entry : ℕ → ℕ → Type 0
Entry y z = Multiples y (inverse_sbox z)

pub returns : goal.returns
returns c =
    let x = c.args in
    keyed (inverse_sbox (b0 x.a)) (inverse_sbox (b1 x.b)) (inverse_sbox (b2 x.c)) (inverse_sbox (b3 x.d)) x.k
    (summed (inverse_sbox (b0 x.a)) (inverse_sbox (b1 x.b)) (inverse_sbox (b2 x.c)) (inverse_sbox (b3 x.d))
    (subst (Entry c.entry.result) c.byte0.ensures c.entry.ensures.0)
    (subst (Entry c.entry-2.result) c.byte1.ensures c.entry-2.ensures.0)
    (subst (Entry c.entry-3.result) c.byte2.ensures c.entry-3.ensures.0)
    (subst (Entry c.entry-4.result) c.byte3.ensures c.entry-4.ensures.0)
    c.rotated_sum.ensures)
