-- What SHA-1 alone uses: ROTL (FIPS 180-4, 3.2) and Parity (4.1.1). A word is a number below 2^32.
-- Assumes nothing.
use Rattle.std.specs.Prelude.{ℕ, ◌-◌, ◌*◌, ◌/◌, ◌%◌, ◌^◌, bit_or, bit_xor}

-- 3.2: ROTL by n places, n below 32: the bitwise or of the word shifted left by n and the word shifted right by 32 - n.
unfoldable pub rotl : ℕ → ℕ → ℕ
rotl n x = bit_or (x * 2 ^ n % 2 ^ 32) (x / 2 ^ (32 - n))

-- 4.1.1: Parity.
unfoldable pub parity : ℕ → ℕ → ℕ → ℕ
parity x y z = bit_xor (bit_xor x y) z
