-- Laws of numbers as byte strings, and of words.
-- Assumes nothing.
use Prim.Native.Nat.{ℕ, zero, suc, ◌+◌, ◌*◌, ◌/◌, ◌%◌, ◌^◌, ◌<◌}
use mathlib.Core.Path.{◌≡◌, refl, sym, ◌∙◌, ap, ap₂}
use mathlib.Core.List.{List, [], ◌∷◌, ◌++◌, append_assoc, append-nil}
use native.Mathlib.Omega.{arith}
use native.Mathlib.Nat.{div-div-eq-div-mul, mod-eq_of_lt, mul_comm, mul_assoc, add-zero, pow-suc, mod-one, zero-lt-suc, mod-lt, mul-add-div_right, mul-add-mod_self_right, one-le-pow}
use lib.Pow.{pow_pos}
use lib.Arith.{mod-mul, digits_div, digits_mod}
use lib.ListN.{length, length-append}
use Rattle.std.specs.Int.{w64, byte_at, bytes_high_first, from_be_bytes}
use Rattle.octets.specs.Bytes.{Bytes}
use Rattle.octets.specs.Words.{b0, b1, b2, b3, word_bytes}
use Rattle.octets.proofs.Words.{parts}
use Rattle.octets.proofs.Bytes.{below_drop, bytes-be}
use Rattle.octets.specs.BigEndian.{int_from, int, be}

pub int-append : (x : ℕ) (s t : List ℕ) → int_from x (s ++ t) ≡ int_from (int_from x s) t
unfolding int_from
int-append x [] t = refl
int-append x (a ∷ s) t = int-append (x * 256 + a) s t

-- The bytes of a word.
pub int_word : (x w : ℕ) (ws : List ℕ) → int_from x (word_bytes (w ∷ ws)) ≡ int_from (x * 2 ^ 32 + w) (word_bytes ws)
unfolding int_from word_bytes
int_word x w ws =
    let e : (((x * 256 + b0 w) * 256 + b1 w) * 256 + b2 w) * 256 + b3 w ≡ x * 2 ^ 32 + w = omega (arith, parts w) in
    ap (λ (y : ℕ). int_from y (word_bytes ws)) e

int_none : (x : ℕ) → int_from x (word_bytes []) ≡ x
unfolding int_from word_bytes
int_none x = refl

pub int-state : (a b c d : ℕ) → (a * 2 ^ 32 + b) * 2 ^ 64 + (c * 2 ^ 32 + d) ≡ int (word_bytes (a ∷ b ∷ c ∷ d ∷ []))
unfolding int
int-state a b c d =
    let e : (((0 * 2 ^ 32 + a) * 2 ^ 32 + b) * 2 ^ 32 + c) * 2 ^ 32 + d ≡ (a * 2 ^ 32 + b) * 2 ^ 64 + (c * 2 ^ 32 + d) = omega arith in
    sym (int_word 0 a (b ∷ c ∷ d ∷ []) ∙ int_word (0 * 2 ^ 32 + a) b (c ∷ d ∷ []) ∙ int_word ((0 * 2 ^ 32 + a) * 2 ^ 32 + b) c (d ∷ [])
    ∙ int_word (((0 * 2 ^ 32 + a) * 2 ^ 32 + b) * 2 ^ 32 + c) d [] ∙ int_none _ ∙ e)

pub length-be : (n x : ℕ) → length (be n x) ≡ n
unfolding be
length-be zero x = refl
length-be (suc n) x = length-append (be n (x / 256)) (x % 256 ∷ []) ∙ omega (arith, length-be n (x / 256))

-- The digits above c of the lowest m * c.
mid : (n : ℕ) {m c : ℕ} → zero < m → zero < c → n % (m * c) / c ≡ n / c % m
mid n {m} {c} h k = ap (λ (x : ℕ). x / c) (mod-mul n h k) ∙ digits_div (n / c % m) (mod-lt n k)

module _ (x : ℕ) where
  at0 : x / 256 / 256 / 256 % 256 ≡ b0 (x % 2 ^ 32)
  at0 =
      let e : x / 256 / 256 / 256 ≡ x / 2 ^ 24 = div-div-eq-div-mul (x / 256) 256 256 ∙ div-div-eq-div-mul x 256 65536 in
      ap (λ (y : ℕ). y % 256) e ∙ sym (mid x {m = 256} {c = 2 ^ 24} (zero-lt-suc 255) (pow_pos 24))

  at1 : x / 256 / 256 % 256 ≡ b1 (x % 2 ^ 32)
  at1 =
      let e : x % 2 ^ 32 / 2 ^ 16 ≡ x / 2 ^ 16 % 2 ^ 16 = mid x {m = 2 ^ 16} {c = 2 ^ 16} (pow_pos 16) (pow_pos 16) in
      omega (arith, e, div-div-eq-div-mul x 256 256)

  at2 : x / 256 % 256 ≡ b2 (x % 2 ^ 32)
  at2 =
      let e : x % 2 ^ 32 / 2 ^ 8 ≡ x / 2 ^ 8 % 2 ^ 24 = mid x {m = 2 ^ 24} {c = 2 ^ 8} (pow_pos 24) (pow_pos 8) in
      omega (arith, e)

  at3 : x % 256 ≡ b3 (x % 2 ^ 32)
  at3 = omega arith

  over : x / 256 / 256 / 256 / 256 ≡ x / 2 ^ 32
  over = div-div-eq-div-mul (x / 256 / 256) 256 256 ∙ div-div-eq-div-mul (x / 256) 256 65536 ∙ div-div-eq-div-mul x 256 16777216

-- The four lowest bytes are those of a word.
pub be-word : (n x : ℕ) → be (suc (suc (suc (suc n)))) x ≡ be n (x / 2 ^ 32) ++ word_bytes (x % 2 ^ 32 ∷ [])
unfolding be word_bytes
be-word n x = rw (append_assoc, append_assoc, append_assoc, over x, at0 x, at1 x, at2 x, at3 x)

module _ (h l : ℕ) where
  high : (h * 2 ^ 64 + l) / 2 ^ 32 ≡ h * 2 ^ 32 + l / 2 ^ 32
  high = ap (λ (x : ℕ). (x + l) / 2 ^ 32) (sym (mul_assoc h (2 ^ 32) (2 ^ 32))) ∙ mul-add-div_right (pow_pos 32) (h * 2 ^ 32) l

  low : (h * 2 ^ 64 + l) % 2 ^ 32 ≡ l % 2 ^ 32
  low = ap (λ (x : ℕ). (x + l) % 2 ^ 32) (sym (mul_assoc h (2 ^ 32) (2 ^ 32))) ∙ mul-add-mod_self_right (h * 2 ^ 32) (2 ^ 32) l

four : (x a b c d : ℕ) → (((be 0 x ++ word_bytes (a ∷ [])) ++ word_bytes (b ∷ [])) ++ word_bytes (c ∷ [])) ++ word_bytes (d ∷ []) ≡ word_bytes (a ∷ b ∷ c ∷ d ∷ [])
unfolding be word_bytes
four x a b c d = refl

pub be_halves : (h l : ℕ) → h < 2 ^ 64 → l < 2 ^ 64 → word_bytes (h / 2 ^ 32 ∷ h % 2 ^ 32 ∷ l / 2 ^ 32 ∷ l % 2 ^ 32 ∷ []) ≡ be 16 (h * 2 ^ 64 + l)
be_halves h l a b =
    let k : l / 2 ^ 32 < 2 ^ 32 = omega arith in
    let m : h / 2 ^ 32 < 2 ^ 32 = omega arith in
    sym (be-word 12 (h * 2 ^ 64 + l)
    ∙ rw (high h l, low h l, be-word 8 (h * 2 ^ 32 + l / 2 ^ 32), digits_div h k, digits_mod h k, be-word 4 h, be-word 0 (h / 2 ^ 32), mod-eq_of_lt m) (four _ _ _ _ _))

pub be-state : (a b c d : ℕ) → a < 2 ^ 32 → b < 2 ^ 32 → c < 2 ^ 32 → d < 2 ^ 32
    → word_bytes (a ∷ b ∷ c ∷ d ∷ []) ≡ be 16 ((a * 2 ^ 32 + b) * 2 ^ 64 + (c * 2 ^ 32 + d))
be-state a b c d p q r s =
    let h = a * 2 ^ 32 + b in
    let l = c * 2 ^ 32 + d in
    let x : h < 2 ^ 64 = omega arith in
    let y : l < 2 ^ 64 = omega arith in
    sym (sym (be_halves h l x y) ∙ rw (digits_div a q, digits_mod a q, digits_div c s, digits_mod c s))

pub be_four : (n : ℕ) → n < 2 ^ 32 → be 4 n ≡ word_bytes (n ∷ [])
unfolding be
be_four n h = be-word 0 n ∙ ap (λ (x : ℕ). word_bytes (x ∷ [])) (mod-eq_of_lt h)

byte_up : (k n : ℕ) → byte_at k (n / 256) ≡ byte_at (suc k) n
byte_up zero n = omega arith
byte_up (suc k) n =
    let e : 256 * 256 ^ suc k ≡ 256 ^ suc (suc k) = mul_comm 256 (256 ^ suc k) ∙ sym (pow-suc 256 (suc k)) in
    ap (λ (x : ℕ). x % 256) (div-div-eq-div-mul n 256 (256 ^ suc k) ∙ ap (λ (m : ℕ). n / m) e)

-- What the library's `to_be_bytes` gives.
pub be_bytes : (k n : ℕ) → bytes_high_first k n ≡ be k n
unfolding be
be_bytes zero n = refl
be_bytes (suc zero) n = refl
be_bytes (suc (suc k)) n =
    ap₂ (λ (x : ℕ) (l : List ℕ). x ∷ l) (sym (byte_up k n)) (be_bytes (suc k) n ∙ ap (λ (l : List ℕ). l ++ (n % 256 ∷ [])) (sym (be_bytes k (n / 256))))
    ∙ ap (λ (l : List ℕ). l ++ (n % 256 ∷ [])) (be_bytes (suc k) (n / 256))

-- The number of eight bytes.
pub int_eight : (s : List ℕ) → length s ≡ 8 → from_be_bytes w64 s ≡ int s
unfolding int int_from
int_eight [] l = absurd (omega (arith, l))
int_eight (a ∷ []) l = absurd (omega (arith, l))
int_eight (a ∷ b ∷ []) l = absurd (omega (arith, l))
int_eight (a ∷ b ∷ c ∷ []) l = absurd (omega (arith, l))
int_eight (a ∷ b ∷ c ∷ d ∷ []) l = absurd (omega (arith, l))
int_eight (a ∷ b ∷ c ∷ d ∷ e ∷ []) l = absurd (omega (arith, l))
int_eight (a ∷ b ∷ c ∷ d ∷ e ∷ f ∷ []) l = absurd (omega (arith, l))
int_eight (a ∷ b ∷ c ∷ d ∷ e ∷ f ∷ g ∷ []) l = absurd (omega (arith, l))
int_eight (a ∷ b ∷ c ∷ d ∷ e ∷ f ∷ g ∷ h ∷ []) l = omega arith
int_eight (a ∷ b ∷ c ∷ d ∷ e ∷ f ∷ g ∷ h ∷ i ∷ s) l = absurd (omega (arith, l))

-- The bytes of the number of a byte string are that byte string.
be_from : (m x : ℕ) (s : List ℕ) → Bytes s → be (m + length s) (int_from x s) ≡ be m x ++ s
unfolding be int_from
be_from m x [] h = ap (λ (k : ℕ). be k x) (add-zero m) ∙ sym (append-nil (be m x))
be_from m x (a ∷ s) h =
    let e : m + length (a ∷ s) ≡ suc m + length s = omega arith in
    ap (λ (k : ℕ). be k (int_from (x * 256 + a) s)) e
    ∙ be_from (suc m) (x * 256 + a) s (below_drop 1 h)
    ∙ rw (digits_div x (h.at 0), digits_mod x (h.at 0)) (append_assoc (be m x) (a ∷ []) s)

pub be-int : (s : List ℕ) → Bytes s → be (length s) (int s) ≡ s
unfolding be int
be-int s h = let e : length s ≡ 0 + length s = omega arith in ap (λ (k : ℕ). be k (int_from 0 s)) e ∙ be_from 0 0 s h

-- A number's bytes have its lowest digits.
pub int-be : (n y x : ℕ) → int_from y (be n x) ≡ y * 256 ^ n + x % 256 ^ n
unfolding be int_from
int-be zero y x = omega (arith, mod-one x)
int-be (suc n) y x =
    int-append y (be n (x / 256)) (x % 256 ∷ []) ∙ ap (λ (z : ℕ). z * 256 + x % 256) (int-be n y (x / 256))
    ∙ rw (pow-suc 256 n, mod-mul x {m = 256 ^ n} {c = 256} (one-le-pow n 256 (zero-lt-suc 255)) (zero-lt-suc 255), ← mul_assoc y (256 ^ n) 256) (omega arith)

-- n bytes hold a number modulo 256^n.
pub be-low : (n x : ℕ) → be n (x % 256 ^ n) ≡ be n x
unfolding int
be-low n x =
    let e : int_from 0 (be n x) ≡ x % 256 ^ n = omega (arith, int-be n 0 x) in
    ap₂ be (sym (length-be n x)) (sym e) ∙ be-int (be n x) (bytes-be n x)
