-- The rule of the table for the rounds, by one test over the whole table.
-- Assumes nothing.
use Prim.Native.Nat.{ℕ, ◌<◌}
use mathlib.Core.Bool.{Bool, ◌&&◌}
use lib.Dec.{T, eqb, eqb→eq}
use lib.ListN.{get_or}
use Rattle.octets.specs.Words.{b0, b1, b2, b3, HasBytes}
use Rattle.octets.proofs.Tables.{all, all_at, and_left, and_right}
use Rattle.aes_spec.specs.Field.{xtimes, mul_bits, mul}
use Rattle.aes_spec.specs.SBox.{sbox}
use Rattle.aes_spec.specs.RoundTable.{round_table}

-- The test of the first two bytes of a word, and of the last two.
abbrev front : ℕ → ℕ → Bool
front b w = eqb (b0 w) (mul 2 (sbox b)) && eqb (b1 w) (sbox b)

abbrev back : ℕ → ℕ → Bool
back b w = eqb (b2 w) (sbox b) && eqb (b3 w) (mul 3 (sbox b))

obeys : ℕ → Bool
obeys b = front b (get_or round_table b 0) && back b (get_or round_table b 0)

all_obey : T (all obeys 256)
unfolding obeys round_table xtimes mul_bits mul sbox
all_obey = tt

pub round_table_lem : (b : ℕ) → b < 256 → HasBytes (get_or round_table b 0) (mul 2 (sbox b)) (sbox b) (sbox b) (mul 3 (sbox b))
unfolding obeys
round_table_lem b h =
    let w = get_or round_table b 0 in
    let t = all_at obeys 256 all_obey b h in
    let l = and_left (front b w) (back b w) t in
    let r = and_right (front b w) (back b w) t in
    let e0 = eqb (b0 w) (mul 2 (sbox b)) in
    let e1 = eqb (b1 w) (sbox b) in
    let e2 = eqb (b2 w) (sbox b) in
    let e3 = eqb (b3 w) (mul 3 (sbox b)) in
    record {
      at0 = eqb→eq (b0 w) (mul 2 (sbox b)) (and_left e0 e1 l);
      at1 = eqb→eq (b1 w) (sbox b) (and_right e0 e1 l);
      at2 = eqb→eq (b2 w) (sbox b) (and_left e2 e3 r);
      at3 = eqb→eq (b3 w) (mul 3 (sbox b)) (and_right e2 e3 r);
    }
