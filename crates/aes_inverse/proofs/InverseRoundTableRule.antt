-- The rule of the table for the rounds of the inverse cipher, by one test over the whole table; and that the multiples add up to the byte.
-- Assumes nothing.
use Prim.Native.Nat.{ℕ, ◌<◌}
use mathlib.Core.Path.{◌≡◌}
use mathlib.Core.Bool.{Bool, ◌&&◌}
use lib.Dec.{T, eqb, eqb→eq}
use lib.ListN.{get_or}
use Rattle.octets.specs.Words.{b0, b1, b2, b3}
use Rattle.octets.proofs.Tables.{all, all_at, and_left, and_right}
use Rattle.aes_spec.specs.Field.{xtimes, mul_bits, mul}
use Rattle.aes_spec.specs.Cipher.{xor4}
use Rattle.aes_inverse.specs.InverseSBox.{inverse_sbox}
use Rattle.aes_inverse.specs.InverseRoundTable.{inverse_round_table}
use Rattle.aes_inverse.proofs.Unmixing.{Multiples}

-- The test of the first two bytes of a word, and of the last two.
abbrev front : ℕ → ℕ → Bool
front s w = eqb (b0 w) (mul 0x0e s) && eqb (b1 w) (mul 0x09 s)

abbrev back : ℕ → ℕ → Bool
back s w = eqb (b2 w) (mul 0x0d s) && eqb (b3 w) (mul 0x0b s)

obeys : ℕ → Bool
obeys b = front (inverse_sbox b) (get_or inverse_round_table b 0) && back (inverse_sbox b) (get_or inverse_round_table b 0)

all_obey : T (all obeys 256)
unfolding obeys inverse_round_table xtimes mul_bits mul inverse_sbox
all_obey = tt

pub inverse_round_table_lem : (b : ℕ) → b < 256 → Multiples (get_or inverse_round_table b 0) (inverse_sbox b)
unfolding obeys
inverse_round_table_lem b h =
    let s = inverse_sbox b in
    let w = get_or inverse_round_table b 0 in
    let t = all_at obeys 256 all_obey b h in
    let l = and_left (front s w) (back s w) t in
    let r = and_right (front s w) (back s w) t in
    let e0 = eqb (b0 w) (mul 0x0e s) in
    let e1 = eqb (b1 w) (mul 0x09 s) in
    let e2 = eqb (b2 w) (mul 0x0d s) in
    let e3 = eqb (b3 w) (mul 0x0b s) in
    record {
      at0 = eqb→eq (b0 w) (mul 0x0e s) (and_left e0 e1 l);
      at1 = eqb→eq (b1 w) (mul 0x09 s) (and_right e0 e1 l);
      at2 = eqb→eq (b2 w) (mul 0x0d s) (and_left e2 e3 r);
      at3 = eqb→eq (b3 w) (mul 0x0b s) (and_right e2 e3 r);
    }

abbrev adds : ℕ → Bool
adds s = eqb (xor4 (mul 0x0e s) (mul 0x09 s) (mul 0x0d s) (mul 0x0b s)) s

all_add : T (all adds 256)
unfolding xtimes mul_bits mul
all_add = tt

pub multiples_add : (s : ℕ) → s < 256 → xor4 (mul 0x0e s) (mul 0x09 s) (mul 0x0d s) (mul 0x0b s) ≡ s
multiples_add s h = eqb→eq (xor4 (mul 0x0e s) (mul 0x09 s) (mul 0x0d s) (mul 0x0b s)) s (all_at adds 256 all_add s h)
