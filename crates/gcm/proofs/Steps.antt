-- The step of V is linear, and n steps reduce a number of 128 + n bits.
-- Assumes nothing.
use Prim.Native.Nat.{ℕ, zero, suc, ◌+◌, ◌*◌, ◌/◌, ◌%◌, ◌^◌, ◌<◌}
use mathlib.Core.Path.{◌≡◌, refl, sym, ◌∙◌, ap, ap₂}
use native.Mathlib.Omega.{arith}
use native.Mathlib.Nat.{zero-add, suc-add, add_comm, mul_assoc, mul_comm, pow-suc, div-add-mod', mod-lt, mul-div_cancel, mul-mod_left, not-suc-le-zero, le_of_suc-le-suc, zero-lt-suc, one-mul, zero-mul}
use lib.Arith.{lt-one}
use lib.Pow.{pow-add}
use lib.Bits.{bit_xor, xor_shr, xor_mod, xor_zero_l, xor_zero_r, xor_shifted, xor_block, xor_lt}
use Rattle.octets.proofs.Bits.{xor_parts, xor_shl}
use Rattle.gcm.specs.Field.{rr, next}
use Rattle.gcm.specs.Digits.{nexts}

-- ---- one step

on_bits : (p q : ℕ) → p < 2 → q < 2 → bit_xor p q * rr ≡ bit_xor (p * rr) (q * rr)
on_bits zero q h k = refl
on_bits (suc zero) zero h k = refl
on_bits (suc zero) (suc zero) h k = refl
on_bits (suc zero) (suc (suc q)) h k = absurd (not-suc-le-zero (le_of_suc-le-suc (le_of_suc-le-suc k)))
on_bits (suc (suc p)) q h k = absurd (not-suc-le-zero (le_of_suc-le-suc (le_of_suc-le-suc h)))

pub next_xor : (a b : ℕ) → next (bit_xor a b) ≡ bit_xor (next a) (next b)
unfolding next
next_xor a b =
    ap₂ bit_xor (xor_shr a b 1)
    (ap (λ (x : ℕ). x * rr) (xor_mod a b 1) ∙ on_bits (a % 2) (b % 2) (mod-lt a (zero-lt-suc 1)) (mod-lt b (zero-lt-suc 1)))
    ∙ xor_parts (a / 2) (b / 2) (a % 2 * rr) (b % 2 * rr)

pub next_zero : next 0 ≡ 0
unfolding next
next_zero = refl

pub next_bit : (b v : ℕ) → b < 2 → next (b * v) ≡ b * next v
next_bit zero v h = ap next (zero-mul v) ∙ next_zero ∙ sym (zero-mul (next v))
next_bit (suc zero) v h = ap next (one-mul v) ∙ sym (one-mul (next v))
next_bit (suc (suc b)) v h = absurd (not-suc-le-zero (le_of_suc-le-suc (le_of_suc-le-suc h)))

even : (q : ℕ) → next (q * 2) ≡ q
unfolding next
even q = ap₂ (λ (x y : ℕ). bit_xor x (y * rr)) (mul-div_cancel q (zero-lt-suc 1)) (mul-mod_left q 2) ∙ xor_zero_r q

-- ---- n steps

pub nexts_xor : (n a b : ℕ) → nexts n (bit_xor a b) ≡ bit_xor (nexts n a) (nexts n b)
unfolding nexts
nexts_xor zero a b = refl
nexts_xor (suc n) a b = ap next (nexts_xor n a b) ∙ next_xor (nexts n a) (nexts n b)

pub nexts_zero : (n : ℕ) → nexts n 0 ≡ 0
unfolding nexts
nexts_zero zero = refl
nexts_zero (suc n) = ap next (nexts_zero n) ∙ next_zero

pub nexts_add : (k n v : ℕ) → nexts k (nexts n v) ≡ nexts (k + n) v
unfolding nexts
nexts_add zero n v = rw zero-add
nexts_add (suc k) n v = ap next (nexts_add k n v) ∙ rw suc-add

pub nexts_swap : (k n v : ℕ) → nexts k (nexts n v) ≡ nexts n (nexts k v)
nexts_swap k n v = nexts_add k n v ∙ ap (λ (m : ℕ). nexts m v) (add_comm k n) ∙ sym (nexts_add n k v)

-- Where only zeros fall out, the steps are a shift.
pub whole : (k q : ℕ) → nexts k (q * 2 ^ k) ≡ q
unfolding nexts
whole zero q = omega arith
whole (suc k) q = ap (λ (x : ℕ). next (nexts k x)) (rw (pow-suc 2 k, mul_comm (2 ^ k) 2, ← mul_assoc q 2 (2 ^ k))) ∙ ap next (whole k (q * 2)) ∙ even q

pub whole_more : (n k q : ℕ) → nexts (n + k) (q * 2 ^ k) ≡ nexts n q
whole_more n k q = sym (nexts_add n k (q * 2 ^ k)) ∙ ap (nexts n) (whole k q)

-- What falls out is folded in by itself.
pub apart : (k q r : ℕ) → r < 2 ^ k → nexts k (q * 2 ^ k + r) ≡ bit_xor q (nexts k r)
apart k q r h = ap (nexts k) (sym (xor_shifted q k r h)) ∙ nexts_xor k (q * 2 ^ k) r ∙ ap (λ (x : ℕ). bit_xor x (nexts k r)) (whole k q)

-- ---- k bits that fall out, all at once

-- R is 0xe1, 120 places to the left: the sum of t's bits, each times R's first eight bits.
abbrev spread : ℕ → ℕ
spread t = bit_xor (bit_xor (bit_xor (t * 2 ^ 7) (t * 2 ^ 6)) (t * 2 ^ 5)) t

spread_xor : (a b : ℕ) → spread (bit_xor a b) ≡ bit_xor (spread a) (spread b)
spread_xor a b =
    let two : ℕ → ℕ = λ x. bit_xor (x * 2 ^ 7) (x * 2 ^ 6) in
    let p : two (bit_xor a b) ≡ bit_xor (two a) (two b) = ap₂ bit_xor (xor_shl a b 7) (xor_shl a b 6) ∙ xor_parts (a * 2 ^ 7) (b * 2 ^ 7) (a * 2 ^ 6) (b * 2 ^ 6) in
    ap (λ (x : ℕ). bit_xor x (bit_xor a b)) (ap₂ bit_xor p (xor_shl a b 5) ∙ xor_parts (two a) (two b) (a * 2 ^ 5) (b * 2 ^ 5))
    ∙ xor_parts (bit_xor (two a) (a * 2 ^ 5)) (bit_xor (two b) (b * 2 ^ 5)) a b

spread_twice : (q : ℕ) → spread (q * 2) ≡ spread q * 2
spread_twice q =
    let e : (n : ℕ) → q * 2 * n ≡ q * n * 2 = λ n. mul_assoc q 2 n ∙ ap (λ (x : ℕ). q * x) (mul_comm 2 n) ∙ sym (mul_assoc q n 2) in
    sym (xor_shl (bit_xor (bit_xor (q * 2 ^ 7) (q * 2 ^ 6)) (q * 2 ^ 5)) q 1
    ∙ ap (λ (x : ℕ). bit_xor x (q * 2)) (xor_shl (bit_xor (q * 2 ^ 7) (q * 2 ^ 6)) (q * 2 ^ 5) 1
    ∙ ap₂ bit_xor (xor_shl (q * 2 ^ 7) (q * 2 ^ 6) 1 ∙ ap₂ bit_xor (sym (e (2 ^ 7))) (sym (e (2 ^ 6)))) (sym (e (2 ^ 5)))))

spread_bit : (b : ℕ) → b < 2 → spread b ≡ b * 0xe1
spread_bit zero h = refl
spread_bit (suc zero) h = refl
spread_bit (suc (suc b)) h = absurd (not-suc-le-zero (le_of_suc-le-suc (le_of_suc-le-suc h)))

-- By the lowest bit and the others.
spread_more : (t : ℕ) → bit_xor (spread (t / 2) * 2) (t % 2 * 0xe1) ≡ spread t
spread_more t =
    let b : t % 2 < 2 = mod-lt t (zero-lt-suc 1) in
    ap₂ bit_xor (sym (spread_twice (t / 2))) (sym (spread_bit (t % 2) b))
    ∙ sym (spread_xor (t / 2 * 2) (t % 2))
    ∙ ap spread (xor_shifted (t / 2) 1 (t % 2) b ∙ div-add-mod' t 2)

fallen : (k j t : ℕ) → t < 2 ^ k → k + j ≡ 121 → nexts k t ≡ spread t * 2 ^ j
unfolding nexts next
fallen zero j t h e = lt-one h ∙ sym (ap (λ (x : ℕ). spread x * 2 ^ j) (lt-one h) ∙ zero-mul (2 ^ j))
fallen (suc k) j t h e =
    let b = t % 2 in
    let n : j + k ≡ 120 = omega arith in
    let high : t / 2 < 2 ^ k = let p : 2 ^ suc k ≡ 2 ^ k * 2 = pow-suc 2 k in omega arith in
    let low : nexts k (b * rr) ≡ b * 0xe1 * 2 ^ j =
    ap (nexts k) (sym (mul_assoc b 0xe1 (2 ^ 120)) ∙ ap (λ (x : ℕ). b * 0xe1 * 2 ^ x) (sym n) ∙ ap (λ (x : ℕ). b * 0xe1 * x) (pow-add 2 j k) ∙ sym (mul_assoc (b * 0xe1) (2 ^ j) (2 ^ k)))
    ∙ whole k (b * 0xe1 * 2 ^ j) in
    let up : spread (t / 2) * 2 ^ suc j ≡ spread (t / 2) * 2 * 2 ^ j =
    ap (λ (x : ℕ). spread (t / 2) * x) (pow-suc 2 j ∙ mul_comm (2 ^ j) 2) ∙ sym (mul_assoc (spread (t / 2)) 2 (2 ^ j)) in
    nexts_swap 1 k t ∙ nexts_xor k (t / 2) (b * rr)
    ∙ ap₂ bit_xor (fallen k (suc j) (t / 2) high (omega arith) ∙ up) low
    ∙ sym (xor_shl (spread (t / 2) * 2) (b * 0xe1) j)
    ∙ ap (λ (x : ℕ). x * 2 ^ j) (spread_more t)

-- 64 bits, in two halves.
module _ (t : ℕ) (h : t < 2 ^ 64) where
  pub folded : bit_xor (bit_xor (bit_xor t (t / 2)) (t / 4)) (t / 128) * 2 ^ 64
      + bit_xor (bit_xor (t % 2 * 0x8000000000000000) (t % 4 * 0x4000000000000000)) (t % 128 * 0x0200000000000000) ≡ nexts 64 t
  folded =
      let l1 = t % 2 * 0x8000000000000000 in
      let l2 = t % 4 * 0x4000000000000000 in
      let l7 = t % 128 * 0x0200000000000000 in
      let s1 : l1 < 2 ^ 64 = omega arith in
      let s2 : l2 < 2 ^ 64 = omega arith in
      let s7 : l7 < 2 ^ 64 = omega arith in
      let e0 : t * 2 ^ 7 * 2 ^ 57 ≡ t * 2 ^ 64 + 0 = omega arith in
      let e1 : t * 2 ^ 6 * 2 ^ 57 ≡ t / 2 * 2 ^ 64 + l1 = omega arith in
      let e2 : t * 2 ^ 5 * 2 ^ 57 ≡ t / 4 * 2 ^ 64 + l2 = omega arith in
      let e7 : t * 2 ^ 57 ≡ t / 128 * 2 ^ 64 + l7 = omega arith in
      let z : 0 < 2 ^ 64 = omega arith in
      let p = xor_shl (t * 2 ^ 7) (t * 2 ^ 6) 57 ∙ ap₂ bit_xor e0 e1 ∙ xor_block 64 t (t / 2) 0 l1 z s1 ∙ ap (λ (x : ℕ). bit_xor t (t / 2) * 2 ^ 64 + x) (xor_zero_l l1) in
      let q = xor_shl (bit_xor (t * 2 ^ 7) (t * 2 ^ 6)) (t * 2 ^ 5) 57 ∙ ap₂ bit_xor p e2 ∙ xor_block 64 (bit_xor t (t / 2)) (t / 4) l1 l2 s1 s2 in
      let r = xor_shl (bit_xor (bit_xor (t * 2 ^ 7) (t * 2 ^ 6)) (t * 2 ^ 5)) t 57 ∙ ap₂ bit_xor q e7
      ∙ xor_block 64 (bit_xor (bit_xor t (t / 2)) (t / 4)) (t / 128) (bit_xor l1 l2) l7 (xor_lt 64 l1 l2 s1 s2) s7 in
      sym (fallen 64 57 t h refl ∙ r)
