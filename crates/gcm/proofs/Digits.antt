-- The product by its digits, several at a time.
-- Assumes nothing.
use Prim.Native.Nat.{ℕ, zero, suc, ◌+◌, ◌*◌, ◌/◌, ◌%◌, ◌^◌, ◌<◌}
use mathlib.Core.Path.{◌≡◌, refl, sym, ◌∙◌, ap, ap₂}
use native.Mathlib.Omega.{arith}
use native.Mathlib.Nat.{zero-add, suc-add, mul_comm, div-div-eq-div-mul, div-add-mod', mod-lt, mul-mod_left, zero-lt-suc, zero-mul, zero-div}
use lib.Arith.{digits_div, digits_mod}
use lib.Pow.{pow-add, shl-shr}
use lib.Bits.{bit_xor, xor_zero_r}
use Rattle.octets.proofs.Bits.{xor_assoc}
use Rattle.gcm.specs.Field.{next, mul_from, mul}
use Rattle.gcm.specs.Digits.{nexts, part}
use Rattle.gcm.specs.Table.{four_bits}
use Rattle.gcm.proofs.Halves.{bit_under}
use Rattle.gcm.proofs.Steps.{next_xor, next_zero, next_bit, nexts_zero}

from : (n x z v : ℕ) → mul_from n x z v ≡ bit_xor z (part n x v)
unfolding mul_from
from zero x z v = sym (xor_zero_r z)
from (suc n) x z v =
    let b = x / 2 ^ n % 2 * v in
    from n x (bit_xor z b) (next v) ∙ xor_assoc z b (part n x (next v)) ∙ ap (bit_xor z) (sym (from n x b (next v)))

slide : (n x z v : ℕ) → mul_from n x (next z) (next v) ≡ next (mul_from n x z v)
unfolding mul_from
slide zero x z v = refl
slide (suc n) x z v =
    let b = x / 2 ^ n % 2 in
    ap (λ (y : ℕ). mul_from n x y (next (next v))) (ap (bit_xor (next z)) (sym (next_bit b v (mod-lt (x / 2 ^ n) (zero-lt-suc 1)))) ∙ sym (next_xor z (b * v)))
    ∙ slide n x (bit_xor z (b * v)) (next v)

-- The highest digit apart.
horner : (n x v : ℕ) → part (suc n) x v ≡ bit_xor (x / 2 ^ n % 2 * v) (next (part n x v))
unfolding mul_from
horner n x v =
    from n x (x / 2 ^ n % 2 * v) (next v)
    ∙ ap (bit_xor (x / 2 ^ n % 2 * v)) (ap (λ (z : ℕ). mul_from n x z (next v)) (sym next_zero) ∙ slide n x 0 v)

-- The highest k digits apart.
pub cut : (k n x v : ℕ) → part (k + n) x v ≡ bit_xor (part k (x / 2 ^ n) v) (nexts k (part n x v))
unfolding nexts mul_from
cut zero n x v = ap (λ (m : ℕ). part m x v) (zero-add n)
cut (suc k) n x v =
    let p : x / 2 ^ (k + n) ≡ x / 2 ^ n / 2 ^ k = rw (pow-add 2 k n, mul_comm (2 ^ k) (2 ^ n), ← div-div-eq-div-mul x (2 ^ n) (2 ^ k)) in
    let b = x / 2 ^ n / 2 ^ k % 2 * v in
    let q = part k (x / 2 ^ n) v in
    let r = nexts k (part n x v) in
    ap (λ (m : ℕ). part m x v) (suc-add k n) ∙ horner (k + n) x v
    ∙ ap₂ (λ (y z : ℕ). bit_xor (y % 2 * v) (next z)) p (cut k n x v)
    ∙ ap (bit_xor b) (next_xor q r) ∙ sym (xor_assoc b (next q) (next r))
    ∙ ap (λ (y : ℕ). bit_xor y (next r)) (sym (horner k (x / 2 ^ n) v))

-- The digits alone count.
same_digits : (n x y z v : ℕ) → ((i : ℕ) → i < n → x / 2 ^ i % 2 ≡ y / 2 ^ i % 2) → mul_from n x z v ≡ mul_from n y z v
unfolding mul_from
same_digits zero x y z v h = refl
same_digits (suc n) x y z v h =
    ap (λ (b : ℕ). mul_from n x (bit_xor z (b * v)) (next v)) (h n (omega arith))
    ∙ same_digits n x y (bit_xor z (y / 2 ^ n % 2 * v)) (next v) (λ i k. h i (omega arith))

pub low-digits : (n x v : ℕ) → part n (x % 2 ^ n) v ≡ part n x v
low-digits n x v =
    same_digits n (x % 2 ^ n) x 0 v
    (λ i k. bit_under n (x / 2 ^ n) (x % 2 ^ n) i k ∙ ap (λ (y : ℕ). y / 2 ^ i % 2) (div-add-mod' x (2 ^ n)))

no_digits : (n v : ℕ) → part n 0 v ≡ 0
unfolding mul_from
no_digits zero v = refl
no_digits (suc n) v = ap (λ (b : ℕ). mul_from n 0 (b % 2 * v) (next v)) (zero-div (2 ^ n)) ∙ ap (λ (z : ℕ). mul_from n 0 z (next v)) (zero-mul v) ∙ no_digits n (next v)

-- The first four bits of a block.
pub four_bits_lem : (i v : ℕ) → mul (four_bits i) v ≡ part 4 i v
unfolding mul
four_bits_lem i v =
    let none : part 124 (four_bits i) v ≡ 0 = sym (low-digits 124 (four_bits i) v) ∙ ap (λ (x : ℕ). part 124 x v) (mul-mod_left i (2 ^ 124)) ∙ no_digits 124 v in
    cut 4 124 (four_bits i) v
    ∙ ap₂ (λ (x y : ℕ). bit_xor (part 4 x v) (nexts 4 y)) (shl-shr i 124) none
    ∙ ap (bit_xor (part 4 i v)) (nexts_zero 4) ∙ xor_zero_r (part 4 i v)

-- A byte by its two halves.
pub two_entries : (b v : ℕ) → bit_xor (mul (four_bits (b / 16)) v) (nexts 4 (mul (four_bits (b % 16)) v)) ≡ part 8 b v
two_entries b v =
    ap₂ (λ (x y : ℕ). bit_xor x (nexts 4 y)) (four_bits_lem (b / 16) v) (four_bits_lem (b % 16) v ∙ low-digits 4 b v) ∙ sym (cut 4 4 b v)

-- The byte n of w before the n bytes behind it.
pub byte_more : (n w b v : ℕ) → b ≡ w / 2 ^ (8 * n) % 256 → bit_xor (part 8 b v) (nexts 8 (part (8 * n) w v)) ≡ part (8 * (n + 1)) w v
byte_more n w b v e =
    let f : 8 + 8 * n ≡ 8 * (n + 1) = omega arith in
    ap (λ (x : ℕ). bit_xor x (nexts 8 (part (8 * n) w v))) (ap (λ (x : ℕ). part 8 x v) e ∙ low-digits 8 (w / 2 ^ (8 * n)) v)
    ∙ sym (cut 8 (8 * n) w v) ∙ ap (λ (m : ℕ). part m w v) f

-- A block by its two halves.
pub two_halves : (h l v : ℕ) → l < 2 ^ 64 → bit_xor (part 64 h v) (nexts 64 (part 64 l v)) ≡ mul (h * 2 ^ 64 + l) v
unfolding mul
two_halves h l v k =
    let x = h * 2 ^ 64 + l in
    let p : x / 2 ^ 64 ≡ h = digits_div h k in
    let q : part 64 l v ≡ part 64 x v = ap (λ (y : ℕ). part 64 y v) (sym (digits_mod h k)) ∙ low-digits 64 x v in
    sym (cut 64 64 x v ∙ ap₂ (λ (y z : ℕ). bit_xor (part 64 y v) (nexts 64 z)) p (sym q))

pub shift_more : (w i v : ℕ) → v ≡ w / 2 ^ (8 * i) → v / 256 ≡ w / 2 ^ (8 * (i + 1))
shift_more w i v e =
    let f : 8 * (i + 1) ≡ 8 * i + 8 = omega arith in
    ap (λ (x : ℕ). x / 256) e ∙ div-div-eq-div-mul w (2 ^ (8 * i)) 256 ∙ rw (f, pow-add 2 (8 * i) 8)
