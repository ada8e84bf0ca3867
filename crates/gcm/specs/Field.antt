-- SP 800-38D, section 6.3: the product of two blocks. A block is a number below 2^128, and its leftmost bit, the bit 0 of the
-- standard, is the highest one of the number. To add is exclusive or.
-- Assumes nothing.
use Rattle.std.specs.Prelude.{ℕ, zero, suc, ◌*◌, ◌/◌, ◌%◌, ◌^◌}
use Rattle.std.specs.Int.Bits.{bit_xor}

-- R: the bits 11100001, and 120 zeros.
abbrev pub rr : ℕ
rr = 0xe1 * 2 ^ 120

-- Algorithm 1, step 3: V(i+1) of V(i). One place to the right, and R is added if the bit that falls out is 1.
unfoldable pub next : ℕ → ℕ
next v = bit_xor (v / 2) (v % 2 * rr)

-- Algorithm 1, step 3, with n bits of x to go, from Z = z and V = v on: V is added to Z if the bit of x is 1.
unfoldable pub mul_from : ℕ → ℕ → ℕ → ℕ → ℕ
mul_from zero x z v = z
mul_from (suc n) x z v = mul_from n x (bit_xor z (x / 2 ^ n % 2 * v)) (next v)

-- Algorithm 1: X • Y.
unfoldable pub mul : ℕ → ℕ → ℕ
mul x y = mul_from 128 x 0 y
