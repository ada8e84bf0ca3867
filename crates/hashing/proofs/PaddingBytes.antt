-- The padding that the code appends.
-- Assumes nothing.
use Prim.Native.Nat.{ℕ, ◌+◌, ◌*◌, ◌%◌, ◌^◌}
use mathlib.Core.Path.{◌≡◌, ◌∙◌, ap, ap₂}
use mathlib.Core.List.{List, ◌∷◌, ◌++◌}
use native.Mathlib.Omega.{arith}
use native.Mathlib.Numerals.{one-add}
use lib.ListN.{length, take, set, replicate}
use Rattle.octets.specs.BigEndian.{be}
use Rattle.octets.specs.Bytes.{placed}
use Rattle.octets.proofs.BigEndian.{length-be, be-low}
use Rattle.octets.proofs.Lists.{take-placed, take-replicate}
use Rattle.hashing.specs.Message.{zeros, padding}

-- The number of bits of n bytes, modulo 2^64.
abbrev bits : ℕ → List ℕ
bits n = be 8 (n * 8 % 2 ^ 64)

bits_are : (n : ℕ) → bits n ≡ be 8 (8 * n)
bits_are n = let e : n * 8 % 2 ^ 64 ≡ 8 * n % 2 ^ 64 = omega arith in ap (be 8) e ∙ be-low 8 (8 * n)

-- Zeros with the byte 0x80 before them.
abbrev blank : List ℕ
blank = set (replicate 72 0) 0 0x80

pub padding_is : (n : ℕ) (tail : List ℕ) → tail ≡ placed (bits n) (1 + zeros n) blank → take (zeros n + 9) tail ≡ padding n
unfolding padding
padding_is n tail g =
    let a : zeros n + 9 ≡ 1 + zeros n + length (bits n) = omega (arith, length-be 8 (n * 8 % 2 ^ 64)) in
    let t : take (1 + zeros n) blank ≡ 0x80 ∷ replicate (zeros n) 0 =
    rw one-add (ap (λ (s : List ℕ). 0x80 ∷ s) (take-replicate (zeros n) 71 0 (omega arith))) in
    rw (a, g) (take-placed (bits n) blank (1 + zeros n) (omega arith)) ∙ ap₂ (λ (x y : List ℕ). x ++ y) t (bits_are n)

-- The padding for a number of bytes that is known modulo 2^64.
pub padding_mod : (n : ℕ) → padding (n % 2 ^ 64) ≡ padding n
unfolding padding
padding_mod n =
    let z : zeros (n % 2 ^ 64) ≡ zeros n = omega arith in
    let e : n % 2 ^ 64 * 8 % 2 ^ 64 ≡ n * 8 % 2 ^ 64 = omega arith in
    rw (z, ← bits_are (n % 2 ^ 64), e, bits_are n)
