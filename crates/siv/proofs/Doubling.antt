-- Doubling a block of four words.
-- Assumes nothing.
use Prim.Native.Nat.{ℕ, ◌+◌, ◌*◌, ◌/◌, ◌%◌, ◌^◌, ◌<◌}
use mathlib.Core.Path.{◌≡◌, sym, ◌∙◌, ap, ap₂}
use mathlib.Core.List.{[], ◌∷◌}
use native.Mathlib.Omega.{arith}
use native.Mathlib.Nat.{div-div-eq-div-mul}
use lib.Arith.{digits_div, digits_mod}
use lib.Pow.{mod-pow-add}
use lib.Bits.{bit_xor, xor_block, xor_lt, xor_zero_r}
use Rattle.octets.specs.BigEndian.{int, be}
use Rattle.octets.specs.Words.{word_bytes}
use Rattle.octets.proofs.BigEndian.{int-state, be-state}
use Rattle.siv.specs.Cmac.{dbl}

twice : (x l : ℕ) → (x + l) * 2 ≡ x * 2 + (l / 2 ^ 63 * 2 ^ 64 + l % 2 ^ 63 * 2)
twice x l = omega arith

joined : (h q v : ℕ) → h * 2 ^ 64 * 2 + (q * 2 ^ 64 + v) ≡ (h * 2 + q) * 2 ^ 64 + v
joined h q v = omega arith

parted : (h s : ℕ) → h * 2 + s ≡ h / 2 ^ 63 * 2 ^ 64 + (h % 2 ^ 63 * 2 + s)
parted h s = omega arith

fits : (x y : ℕ) → y < 2 ^ 32 → x % 2147483648 * 2 + y / 2147483648 < 2 ^ 32
fits x y h = omega arith

-- Two words, of which the first loses its highest bit.
module _ (a b : ℕ) (p : b < 2 ^ 32) where
  high_bit : (a * 2 ^ 32 + b) / 2 ^ 63 ≡ a / 2147483648
  high_bit = sym (div-div-eq-div-mul (a * 2 ^ 32 + b) (2 ^ 32) 2147483648) ∙ ap (λ (x : ℕ). x / 2147483648) (digits_div a p)

  low_bits : (a * 2 ^ 32 + b) % 2 ^ 63 * 2 ≡ (a % 2147483648 * 2 + b / 2147483648) * 2 ^ 32 + b % 2147483648 * 2
  low_bits = omega (arith, high_bit)

-- Two halves h and l, one bit to the left.
module _ (h l : ℕ) (p : h < 2 ^ 64) (q : l < 2 ^ 64) where
  over : (h * 2 ^ 64 + l) / 2 ^ 127 ≡ h / 2 ^ 63
  over = sym (div-div-eq-div-mul (h * 2 ^ 64 + l) (2 ^ 64) (2 ^ 63)) ∙ ap (λ (x : ℕ). x / 2 ^ 63) (digits_div h q)

  left : (h * 2 ^ 64 + l) * 2 % 2 ^ 128 ≡ (h % 2 ^ 63 * 2 + l / 2 ^ 63) * 2 ^ 64 + l % 2 ^ 63 * 2
  left =
      let u = h * 2 + l / 2 ^ 63 in
      let v = l % 2 ^ 63 * 2 in
      let k : v < 2 ^ 64 = omega arith in
      let e : (h * 2 ^ 64 + l) * 2 ≡ u * 2 ^ 64 + v = twice (h * 2 ^ 64) l ∙ joined h (l / 2 ^ 63) v in
      let m : h % 2 ^ 63 * 2 + l / 2 ^ 63 < 2 ^ 64 = omega arith in
      let f : u % 2 ^ 64 ≡ h % 2 ^ 63 * 2 + l / 2 ^ 63 = ap (λ (x : ℕ). x % 2 ^ 64) (parted h (l / 2 ^ 63)) ∙ digits_mod (h / 2 ^ 63) m in
      ap (λ (x : ℕ). x % 2 ^ 128) e ∙ mod-pow-add (u * 2 ^ 64 + v) 64 64
      ∙ ap₂ (λ (x y : ℕ). x % 2 ^ 64 * 2 ^ 64 + y) (digits_div u k) (digits_mod u k) ∙ ap (λ (x : ℕ). x * 2 ^ 64 + v) f

-- The reduction touches the last of four words only.
module _ (h c d t : ℕ) (p : d < 2 ^ 32) (q : t < 2 ^ 32) where
  low : bit_xor (h * 2 ^ 64 + (c * 2 ^ 32 + d)) t ≡ h * 2 ^ 64 + (c * 2 ^ 32 + bit_xor d t)
  low =
      let e : h * 2 ^ 64 + (c * 2 ^ 32 + d) ≡ (h * 2 ^ 32 + c) * 2 ^ 32 + d = omega arith in
      let f : t ≡ 0 * 2 ^ 32 + t = omega arith in
      ap₂ bit_xor e f ∙ xor_block 32 (h * 2 ^ 32 + c) 0 d t p q ∙ ap (λ (x : ℕ). x * 2 ^ 32 + bit_xor d t) (xor_zero_r (h * 2 ^ 32 + c)) ∙ omega arith

module _ (a b c d : ℕ) (p : a < 2 ^ 32) (q : b < 2 ^ 32) (r : c < 2 ^ 32) (s : d < 2 ^ 32) where
  pub doubled :
      word_bytes ((a % 2147483648 * 2 + b / 2147483648) ∷ (b % 2147483648 * 2 + c / 2147483648) ∷ (c % 2147483648 * 2 + d / 2147483648)
      ∷ bit_xor (d % 2147483648 * 2) (a / 2147483648 * 135) ∷ [])
      ≡ dbl (word_bytes (a ∷ b ∷ c ∷ d ∷ []))
  unfolding dbl
  doubled =
      let h = a * 2 ^ 32 + b in
      let l = c * 2 ^ 32 + d in
      let t = a / 2147483648 * 135 in
      let a' = a % 2147483648 * 2 + b / 2147483648 in
      let b' = b % 2147483648 * 2 + c / 2147483648 in
      let c' = c % 2147483648 * 2 + d / 2147483648 in
      let d' = d % 2147483648 * 2 in
      let hh : h < 2 ^ 64 = omega arith in
      let ll : l < 2 ^ 64 = omega arith in
      let tt' : t < 2 ^ 32 = omega arith in
      let dd : d' < 2 ^ 32 = omega arith in
      let n : int (word_bytes (a ∷ b ∷ c ∷ d ∷ [])) ≡ h * 2 ^ 64 + l = sym (int-state a b c d) in
      let g : h % 2 ^ 63 * 2 + l / 2 ^ 63 ≡ a' * 2 ^ 32 + b' = ap₂ (λ (x y : ℕ). x + y) (low_bits a b q) (high_bit c d s) ∙ omega arith in
      let e : (h % 2 ^ 63 * 2 + l / 2 ^ 63) * 2 ^ 64 + l % 2 ^ 63 * 2 ≡ (a' * 2 ^ 32 + b') * 2 ^ 64 + (c' * 2 ^ 32 + d') = ap₂ (λ (x y : ℕ). x * 2 ^ 64 + y) g (low_bits c d s) in
      let f : h / 2 ^ 63 ≡ a / 2147483648 = high_bit a b q in
      be-state a' b' c' (bit_xor d' t) (fits a b q) (fits b c r) (fits c d s) (xor_lt 32 d' t dd tt')
      ∙ ap (be 16) (sym (ap (λ (x : ℕ). bit_xor (x * 2 % 2 ^ 128) (x / 2 ^ 127 * 0x87)) n
      ∙ ap₂ (λ (x y : ℕ). bit_xor x (y * 0x87)) (left h l hh ll ∙ e) (over h l hh ll ∙ f)
      ∙ low (a' * 2 ^ 32 + b') c' d' t dd tt'))
