-- What SHA-256 alone uses: ROTR and SHR (FIPS 180-4, 3.2), and the functions Σ and σ (4.1.2). A word is a number below 2^32.
-- Assumes nothing.
use Rattle.std.specs.Prelude.{ℕ, ◌-◌, ◌*◌, ◌/◌, ◌%◌, ◌^◌, bit_or, bit_xor}

-- 3.2: ROTR by n places, n below 32: the bitwise or of the word shifted right by n and the word shifted left by 32 - n.
unfoldable pub rotr : ℕ → ℕ → ℕ
rotr n x = bit_or (x / 2 ^ n) (x * 2 ^ (32 - n) % 2 ^ 32)

-- 3.2: SHR by n places.
abbrev pub shr : ℕ → ℕ → ℕ
shr n x = x / 2 ^ n

-- 4.1.2, (4.4) and (4.5).
unfoldable pub Σ0 : ℕ → ℕ
Σ0 x = bit_xor (bit_xor (rotr 2 x) (rotr 13 x)) (rotr 22 x)

unfoldable pub Σ1 : ℕ → ℕ
Σ1 x = bit_xor (bit_xor (rotr 6 x) (rotr 11 x)) (rotr 25 x)

-- 4.1.2, (4.6) and (4.7).
unfoldable pub σ0 : ℕ → ℕ
σ0 x = bit_xor (bit_xor (rotr 7 x) (rotr 18 x)) (shr 3 x)

unfoldable pub σ1 : ℕ → ℕ
σ1 x = bit_xor (bit_xor (rotr 17 x) (rotr 19 x)) (shr 10 x)
