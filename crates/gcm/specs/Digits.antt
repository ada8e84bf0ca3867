-- The product of SP 800-38D, 6.3, some bits at a time.
-- Assumes nothing.
use Rattle.std.specs.Prelude.{ℕ, zero, suc}
use Rattle.gcm.specs.Field.{next, mul_from}

-- n steps of V: x^n times a block. Of a number of 128 + n bits, its first bit the constant term, each step takes one bit off, so that n steps
-- make it the block that it is modulo x^128 + x^7 + x^2 + x + 1.
unfoldable pub nexts : ℕ → ℕ → ℕ
nexts zero v = v
nexts (suc n) v = next (nexts n v)

-- The product of the n lowest bits of x alone.
abbrev pub part : ℕ → ℕ → ℕ → ℕ
part n x h = mul_from n x 0 h
