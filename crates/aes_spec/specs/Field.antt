-- FIPS 197, section 4: the field of 256 elements; and section 5.1.1: the rule of the S-box.
-- A byte is the polynomial of its bits, the lowest bit the constant term. To add is exclusive or (4.1).
-- Assumes nothing.
use Rattle.std.specs.Prelude.{ℕ, zero, suc, ◌+◌, ◌*◌, ◌/◌, ◌%◌, ◌^◌}
use Rattle.std.specs.Int.Bits.{bit_xor}

-- 4.2, XTIMES: a byte times x, modulo m(x) = x^8 + x^4 + x^3 + x + 1.
unfoldable pub xtimes : ℕ → ℕ
xtimes b = bit_xor (b * 2 % 256) (b / 128 * 0x1b)

-- 4.2: the product of a and the k lowest bits of b, a sum of a times powers of x.
unfoldable pub mul_bits : ℕ → ℕ → ℕ → ℕ
mul_bits zero a b = 0
mul_bits (suc k) a b = bit_xor (b % 2 * a) (mul_bits k (xtimes a) (b / 2))

unfoldable pub mul : ℕ → ℕ → ℕ
mul a b = mul_bits 8 a b

-- c times the powers 2, 4, .., 2^k of b.
unfoldable pub mul_squares : ℕ → ℕ → ℕ → ℕ
mul_squares zero b c = c
mul_squares (suc k) b c = mul_squares k (mul b b) (mul c (mul b b))

-- 4.4: the inverse of b is b^254, and 254 = 2 + 4 + .. + 128; of 0 this is 0, as 5.1.1 has it.
unfoldable pub inverse : ℕ → ℕ
inverse b = mul_squares 7 b 1

-- A byte rotated left by k bits.
unfoldable pub rotate : ℕ → ℕ → ℕ
rotate k b = b * 2 ^ k % 256 + b * 2 ^ k / 256

-- 5.1.1: bit i of the result is the sum of the bits i, i+4, i+5, i+6 and i+7 of b, these places modulo 8, and bit i of 0x63.
unfoldable pub affine : ℕ → ℕ
affine b = bit_xor (bit_xor (bit_xor (bit_xor (bit_xor b (rotate 4 b)) (rotate 3 b)) (rotate 2 b)) (rotate 1 b)) 0x63

-- 5.1.1: the inverse, and then the affine map.
unfoldable pub sbox_rule : ℕ → ℕ
sbox_rule b = affine (inverse b)
