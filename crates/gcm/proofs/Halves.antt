-- A number below 2^128 in two halves: the sum, the step and the bits.
-- Assumes nothing.
use Prim.Native.Nat.{ℕ, zero, suc, ◌+◌, ◌-◌, ◌*◌, ◌/◌, ◌%◌, ◌^◌, ◌<◌}
use mathlib.Core.Path.{◌≡◌, sym, ◌∙◌, ap, ap₂}
use native.Mathlib.Omega.{arith}
use native.Mathlib.Nat.{mul_assoc, pow-suc, mul-add-div_right, add-zero}
use lib.Pow.{pow-add, pow_pos}
use lib.Bits.{bit_xor, xor_block, xor_zero_r}
use Rattle.gcm.specs.Field.{rr, next, mul_from}

pub low_fits : (h l : ℕ) → l < 2 ^ 64 → l / 2 + h % 2 * 0x8000000000000000 < 2 ^ 64
low_fits h l a = omega arith

pub next_halves : (h l : ℕ) → h < 2 ^ 64 → l < 2 ^ 64
    → bit_xor (h / 2) (l % 2 * 0xe100000000000000) * 2 ^ 64 + (l / 2 + h % 2 * 0x8000000000000000) ≡ next (h * 2 ^ 64 + l)
unfolding next
next_halves h l a b =
    let u : (h * 2 ^ 64 + l) / 2 ≡ h / 2 * 2 ^ 64 + (l / 2 + h % 2 * 0x8000000000000000) = omega arith in
    let odd : (h * 2 ^ 64 + l) % 2 ≡ l % 2 = omega arith in
    let v : (h * 2 ^ 64 + l) % 2 * rr ≡ l % 2 * 0xe100000000000000 * 2 ^ 64 + 0 =
    ap (λ (x : ℕ). x * rr) odd ∙ sym (mul_assoc (l % 2) 0xe100000000000000 (2 ^ 64)) ∙ sym (add-zero (l % 2 * 0xe100000000000000 * 2 ^ 64)) in
    sym (ap₂ bit_xor u v
    ∙ xor_block 64 (h / 2) (l % 2 * 0xe100000000000000) (l / 2 + h % 2 * 0x8000000000000000) 0 (low_fits h l b) (pow_pos 64)
    ∙ ap (λ (x : ℕ). bit_xor (h / 2) (l % 2 * 0xe100000000000000) * 2 ^ 64 + x) (xor_zero_r (l / 2 + h % 2 * 0x8000000000000000)))

-- A bit of the low part, k bits wide.
pub bit_under : (k h l n : ℕ) → n < k → l / 2 ^ n % 2 ≡ (h * 2 ^ k + l) / 2 ^ n % 2
bit_under k h l n u =
    let m = k - 1 - n in
    let e : k ≡ suc m + n = omega arith in
    let p : h * 2 ^ k ≡ h * 2 ^ m * 2 * 2 ^ n = ap (λ (x : ℕ). h * 2 ^ x) e ∙ rw (pow-add 2 (suc m) n, pow-suc 2 m, ← mul_assoc h (2 ^ m * 2) (2 ^ n), ← mul_assoc h (2 ^ m) 2) in
    let q : (h * 2 ^ k + l) / 2 ^ n ≡ h * 2 ^ m * 2 + l / 2 ^ n = ap (λ (x : ℕ). (x + l) / 2 ^ n) p ∙ mul-add-div_right (pow_pos n) (h * 2 ^ m * 2) l in
    sym (ap (λ (x : ℕ). x % 2) q ∙ omega arith)

-- One step of the product.
pub mul_more : (x z v n b z' v' s : ℕ) → 0 < n → b ≡ x / 2 ^ (n - 1) % 2 → s ≡ b * v → z' ≡ bit_xor z s → v' ≡ next v
    → mul_from n x z v ≡ mul_from (n - 1) x z' v'
unfolding mul_from
mul_more x z v zero b z' v' s h p q r t = absurd (omega arith)
mul_more x z v (suc n) b z' v' s h p q r t =
    let e : suc n - 1 ≡ n = omega arith in
    rw (r, q, p, t, e)
