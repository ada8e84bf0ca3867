-- A number of four words: sums, shifts and the reduction, word by word.
-- Assumes nothing.
use Prim.Native.Nat.{ℕ, ◌+◌, ◌*◌, ◌/◌, ◌%◌, ◌^◌, ◌<◌}
use mathlib.Core.Path.{◌≡◌, sym, ◌∙◌, ap, ap₂, subst}
use native.Mathlib.Nat.{add-zero, zero-mul, zero-add, add_assoc, add_comm, add-mul, mul_assoc, mul_comm, div-add-mod', mul-add-div_right, mul-add-mod_self_right}
use lib.Arith.{digits_lt}
use lib.Pow.{pow-add, pow_pos}
use lib.Bits.{bit_xor, xor_block, xor_lt, xor_zero_l, xor_zero_r}
use Rattle.gcm.specs.Digits.{nexts}
use Rattle.gcm.proofs.Steps.{nexts_add, apart}

-- Four words, the highest first.
abbrev pub four : ℕ → ℕ → ℕ → ℕ → ℕ
four a b c d = ((a * 2 ^ 64 + b) * 2 ^ 64 + c) * 2 ^ 64 + d

module _ (a b c d : ℕ) (hb : b < 2 ^ 64) (hc : c < 2 ^ 64) (hd : d < 2 ^ 64) where
  pub four_sum : (a' b' c' d' : ℕ) → b' < 2 ^ 64 → c' < 2 ^ 64 → d' < 2 ^ 64
      → bit_xor (four a b c d) (four a' b' c' d') ≡ four (bit_xor a a') (bit_xor b b') (bit_xor c c') (bit_xor d d')
  four_sum a' b' c' d' hb' hc' hd' =
      xor_block 64 _ _ d d' hd hd'
      ∙ ap (λ (x : ℕ). x * 2 ^ 64 + bit_xor d d') (xor_block 64 _ _ c c' hc hc'
      ∙ ap (λ (x : ℕ). x * 2 ^ 64 + bit_xor c c') (xor_block 64 a a' b b' hb hb'))

-- What stays of a word, and what comes from the one before it.
pub sum_fits : {q r : ℕ} (j k : ℕ) → q < 2 ^ j → r < 2 ^ k → q + r * 2 ^ j < 2 ^ (k + j)
sum_fits {q} {r} j k h l = subst (λ (x : ℕ). x < 2 ^ (k + j)) (add_comm (r * 2 ^ j) q) (subst (λ (x : ℕ). r * 2 ^ j + q < x) (sym (pow-add 2 k j)) (digits_lt l h))

-- k places to the right, of a word behind others.
module _ (k j : ℕ) (e : k + j ≡ 64) where
  word_low : (h l : ℕ) → (h * 2 ^ 64 + l) % 2 ^ k ≡ l % 2 ^ k
  word_low h l =
      ap (λ (x : ℕ). (h * x + l) % 2 ^ k) (ap (λ (x : ℕ). 2 ^ x) (sym e) ∙ pow-add 2 k j ∙ mul_comm (2 ^ k) (2 ^ j))
      ∙ ap (λ (x : ℕ). (x + l) % 2 ^ k) (sym (mul_assoc h (2 ^ j) (2 ^ k))) ∙ mul-add-mod_self_right (h * 2 ^ j) (2 ^ k) l

  word-right : (h l : ℕ) → (h * 2 ^ 64 + l) / 2 ^ k ≡ h / 2 ^ k * 2 ^ 64 + (l / 2 ^ k + h % 2 ^ k * 2 ^ j)
  word-right h l =
      let w : 2 ^ 64 ≡ 2 ^ k * 2 ^ j = ap (λ (x : ℕ). 2 ^ x) (sym e) ∙ pow-add 2 k j in
      let q = h / 2 ^ k in
      let r = h % 2 ^ k in
      let split : h * 2 ^ j ≡ q * 2 ^ 64 + r * 2 ^ j =
      ap (λ (x : ℕ). x * 2 ^ j) (sym (div-add-mod' h (2 ^ k))) ∙ add-mul (q * 2 ^ k) r (2 ^ j)
      ∙ ap (λ (x : ℕ). x + r * 2 ^ j) (mul_assoc q (2 ^ k) (2 ^ j) ∙ ap (λ (x : ℕ). q * x) (sym w)) in
      ap (λ (x : ℕ). (x + l) / 2 ^ k) (ap (λ (x : ℕ). h * x) (w ∙ mul_comm (2 ^ k) (2 ^ j)) ∙ sym (mul_assoc h (2 ^ j) (2 ^ k)))
      ∙ mul-add-div_right (pow_pos k) (h * 2 ^ j) l
      ∙ ap (λ (x : ℕ). x + l / 2 ^ k) split
      ∙ add_assoc (q * 2 ^ 64) (r * 2 ^ j) (l / 2 ^ k) ∙ ap (λ (x : ℕ). q * 2 ^ 64 + x) (add_comm (r * 2 ^ j) (l / 2 ^ k))

  pub four_right : (a b c d : ℕ)
      → four (a / 2 ^ k) (b / 2 ^ k + a % 2 ^ k * 2 ^ j) (c / 2 ^ k + b % 2 ^ k * 2 ^ j) (d / 2 ^ k + c % 2 ^ k * 2 ^ j) ≡ four a b c d / 2 ^ k
  four_right a b c d =
      let f = a * 2 ^ 64 + b in
      let g = f * 2 ^ 64 + c in
      sym (word-right g d
      ∙ ap₂ (λ (x y : ℕ). x * 2 ^ 64 + (d / 2 ^ k + y * 2 ^ j))
      (word-right f c ∙ ap₂ (λ (x y : ℕ). x * 2 ^ 64 + (c / 2 ^ k + y * 2 ^ j)) (word-right a b) (word_low a b))
      (word_low f c))

-- A sum with the lowest word alone.
low_word : (a b c : ℕ) → b < 2 ^ 64 → c < 2 ^ 64 → bit_xor (a * 2 ^ 64 + b) c ≡ a * 2 ^ 64 + bit_xor b c
low_word a b c h k =
    ap (bit_xor (a * 2 ^ 64 + b)) (sym (ap (λ (x : ℕ). x + c) (zero-mul (2 ^ 64)) ∙ zero-add c))
    ∙ xor_block 64 a 0 b c h k ∙ ap (λ (x : ℕ). x * 2 ^ 64 + bit_xor b c) (xor_zero_r a)

-- Two blocks, 64 places apart, in the first three words.
pub two_blocks : (p q r s : ℕ) → q < 2 ^ 64 → r < 2 ^ 64 → s < 2 ^ 64 → four p (bit_xor q r) s 0 ≡ bit_xor ((p * 2 ^ 64 + q) * 2 ^ 64) (r * 2 ^ 64 + s) * 2 ^ 64
two_blocks p q r s hq hr hs =
    add-zero _
    ∙ ap (λ (x : ℕ). x * 2 ^ 64) (sym (ap (λ (x : ℕ). bit_xor x (r * 2 ^ 64 + s)) (sym (add-zero ((p * 2 ^ 64 + q) * 2 ^ 64)))
    ∙ xor_block 64 (p * 2 ^ 64 + q) r 0 s (pow_pos 64) hs
    ∙ ap₂ (λ (x y : ℕ). x * 2 ^ 64 + y) (low_word p q r hq hr) (xor_zero_l s)))

-- The last word folded into the two before it, and then the last word but one.
pub four_reduced : (a b c d f g x : ℕ) → b < 2 ^ 64 → c < 2 ^ 64 → d < 2 ^ 64 → f < 2 ^ 64 → g < 2 ^ 64
    → f * 2 ^ 64 + g ≡ nexts 64 d → x ≡ nexts 64 (bit_xor c g) → bit_xor (a * 2 ^ 64 + bit_xor b f) x ≡ nexts 128 (four a b c d)
four_reduced a b c d f g x hb hc hd hf hg p q =
    let h = a * 2 ^ 64 + b in
    let h' = a * 2 ^ 64 + bit_xor b f in
    sym (sym (nexts_add 64 64 (four a b c d))
    ∙ ap (nexts 64) (apart 64 (h * 2 ^ 64 + c) d hd ∙ ap (bit_xor (h * 2 ^ 64 + c)) (sym p)
    ∙ xor_block 64 h f c g hc hg ∙ ap (λ (y : ℕ). y * 2 ^ 64 + bit_xor c g) (low_word a b f hb hf))
    ∙ apart 64 h' (bit_xor c g) (xor_lt 64 c g hc hg) ∙ ap (bit_xor h') (sym q))
