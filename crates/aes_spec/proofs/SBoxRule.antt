-- The S-box's table obeys the rule of FIPS 197, 5.1.1, at all of its 256 entries, and the rule's inverse is one: each by
-- one test that the checker computes.
-- Assumes nothing.
use Prim.Native.Nat.{ℕ, ◌+◌, ◌<◌}
use mathlib.Core.Path.{◌≡◌, refl}
use mathlib.Core.Bool.{Bool}
use lib.Dec.{T, eqb, eqb→eq}
use Rattle.octets.proofs.Tables.{all, all_at}
use Rattle.aes_spec.specs.Field.{xtimes, mul_bits, mul, mul_squares, inverse, rotate, affine, sbox_rule}
use Rattle.aes_spec.specs.SBox.{sbox}

abbrev obeys : ℕ → Bool
obeys b = eqb (sbox b) (sbox_rule b)

all_obey : T (all obeys 256)
unfolding xtimes mul_bits mul mul_squares inverse rotate affine sbox_rule sbox
all_obey = tt

pub sbox_rule_lem : (b : ℕ) → b < 256 → sbox b ≡ sbox_rule b
sbox_rule_lem b h = eqb→eq (sbox b) (sbox_rule b) (all_at obeys 256 all_obey b h)

-- Every byte b + 1 times its inverse is 1.
abbrev inverts : ℕ → Bool
inverts b = eqb (mul (b + 1) (inverse (b + 1))) 1

all_invert : T (all inverts 255)
unfolding xtimes mul_bits mul mul_squares inverse
all_invert = tt

pub inverse_rule : (b : ℕ) → b < 255 → mul (b + 1) (inverse (b + 1)) ≡ 1
inverse_rule b h = eqb→eq (mul (b + 1) (inverse (b + 1))) 1 (all_at inverts 255 all_invert b h)

pub inverse_zero : inverse 0 ≡ 0
unfolding xtimes mul_bits mul mul_squares inverse
inverse_zero = refl

-- FIPS 197, 4.2: 57 times 13 is fe.
product_57_13 : mul 0x57 0x13 ≡ 0xfe
unfolding xtimes mul_bits mul
product_57_13 = refl
