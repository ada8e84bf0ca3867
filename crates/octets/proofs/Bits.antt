-- The exclusive or of numbers is associative and its own inverse, and the and distributes over it: by binary digits, lowest first.
-- Assumes nothing.
use Prim.Native.Nat.{ℕ, zero, suc, ◌+◌, ◌*◌, ◌/◌, ◌%◌, ◌^◌, ◌<◌}
use mathlib.Core.Path.{◌≡◌, refl, sym, ap, ap₂, ◌∙◌}
use native.Mathlib.Nat.{div-add-mod', mod-lt, zero-lt-suc, le_of_suc-le-suc, not-suc-le-zero, add-zero}
use lib.Arith.{bin_ind}
use lib.Pow.{pow_pos}
use lib.Bits.{bit_xor, bit_and, xor_shr, xor_mod, xor_zero_r, xor_self, xor_comm, xor_block, and_shr, and_mod}

-- Two numbers are equal when their halves and their lowest digits are
by_halves : {a b : ℕ} → a / 2 ≡ b / 2 → a % 2 ≡ b % 2 → a ≡ b
by_halves {a} {b} p q = sym (div-add-mod' a 2) ∙ ap₂ (λ (x y : ℕ). x * 2 + y) p q ∙ div-add-mod' b 2

-- For three digits.
of_bits : (x y z : ℕ) → x < 2 → y < 2 → z < 2 → bit_xor (bit_xor x y) z ≡ bit_xor x (bit_xor y z)
of_bits zero y z p q r = refl
of_bits (suc zero) zero z p q r = refl
of_bits (suc zero) (suc zero) zero p q r = refl
of_bits (suc zero) (suc zero) (suc zero) p q r = refl
of_bits (suc zero) (suc zero) (suc (suc z)) p q r = absurd (not-suc-le-zero (le_of_suc-le-suc (le_of_suc-le-suc r)))
of_bits (suc zero) (suc (suc y)) z p q r = absurd (not-suc-le-zero (le_of_suc-le-suc (le_of_suc-le-suc q)))
of_bits (suc (suc x)) y z p q r = absurd (not-suc-le-zero (le_of_suc-le-suc (le_of_suc-le-suc p)))

-- The half of a sum, and its lowest digit.
half : (a b : ℕ) → bit_xor a b / 2 ≡ bit_xor (a / 2) (b / 2)
half a b = xor_shr a b 1

odd : (a b : ℕ) → bit_xor a b % 2 ≡ bit_xor (a % 2) (b % 2)
odd a b = xor_mod a b 1

bit< : (a : ℕ) → a % 2 < 2
bit< a = mod-lt a (zero-lt-suc 1)

pub xor_assoc : (a b c : ℕ) → bit_xor (bit_xor a b) c ≡ bit_xor a (bit_xor b c)
xor_assoc a =
    bin_ind (λ (n : ℕ). (b c : ℕ) → bit_xor (bit_xor n b) c ≡ bit_xor n (bit_xor b c)) (λ b c. refl)
    (λ n ih b c. by_halves
    (half (bit_xor n b) c ∙ ap (λ (x : ℕ). bit_xor x (c / 2)) (half n b) ∙ ih (b / 2) (c / 2)
    ∙ sym (half n (bit_xor b c) ∙ ap (bit_xor (n / 2)) (half b c)))
    (odd (bit_xor n b) c ∙ ap (λ (x : ℕ). bit_xor x (c % 2)) (odd n b) ∙ of_bits (n % 2) (b % 2) (c % 2) (bit< n) (bit< b) (bit< c)
    ∙ sym (odd n (bit_xor b c) ∙ ap (bit_xor (n % 2)) (odd b c)))) a

-- What is added twice is gone.
pub xor_twice : (a b : ℕ) → bit_xor (bit_xor a b) b ≡ a
xor_twice a b = xor_assoc a b b ∙ ap (bit_xor a) (xor_self b) ∙ xor_zero_r a

-- Two numbers whose sum is 0 are equal.
pub xor_zero : (a b : ℕ) → bit_xor a b ≡ 0 → a ≡ b
xor_zero a b h = sym (xor_twice a b) ∙ ap (λ (x : ℕ). bit_xor x b) h

-- The sum of two sums, by their first and by their second parts.
pub xor_parts : (a b c d : ℕ) → bit_xor (bit_xor a b) (bit_xor c d) ≡ bit_xor (bit_xor a c) (bit_xor b d)
xor_parts a b c d =
    xor_assoc a b (bit_xor c d)
    ∙ ap (bit_xor a) (sym (xor_assoc b c d) ∙ ap (λ (x : ℕ). bit_xor x d) (xor_comm b c) ∙ xor_assoc c b d)
    ∙ sym (xor_assoc a c (bit_xor b d))

-- A sum, k places to the left.
pub xor_shl : (a b k : ℕ) → bit_xor a b * 2 ^ k ≡ bit_xor (a * 2 ^ k) (b * 2 ^ k)
xor_shl a b k =
    sym (ap₂ bit_xor (sym (add-zero (a * 2 ^ k))) (sym (add-zero (b * 2 ^ k))) ∙ xor_block k a b 0 0 (pow_pos k) (pow_pos k) ∙ add-zero (bit_xor a b * 2 ^ k))

-- ---- and

and_of_bits : (x y z : ℕ) → x < 2 → y < 2 → z < 2 → bit_and x (bit_xor y z) ≡ bit_xor (bit_and x y) (bit_and x z)
and_of_bits zero y z p q r = refl
and_of_bits (suc zero) zero z p q r = refl
and_of_bits (suc zero) (suc zero) zero p q r = refl
and_of_bits (suc zero) (suc zero) (suc zero) p q r = refl
and_of_bits (suc zero) (suc zero) (suc (suc z)) p q r = absurd (not-suc-le-zero (le_of_suc-le-suc (le_of_suc-le-suc r)))
and_of_bits (suc zero) (suc (suc y)) z p q r = absurd (not-suc-le-zero (le_of_suc-le-suc (le_of_suc-le-suc q)))
and_of_bits (suc (suc x)) y z p q r = absurd (not-suc-le-zero (le_of_suc-le-suc (le_of_suc-le-suc p)))

-- The and of a number and a sum.
pub and_xor : (a b c : ℕ) → bit_and a (bit_xor b c) ≡ bit_xor (bit_and a b) (bit_and a c)
and_xor a =
    bin_ind (λ (n : ℕ). (b c : ℕ) → bit_and n (bit_xor b c) ≡ bit_xor (bit_and n b) (bit_and n c)) (λ b c. refl)
    (λ n ih b c. by_halves
    (and_shr n (bit_xor b c) 1 ∙ ap (bit_and (n / 2)) (half b c) ∙ ih (b / 2) (c / 2)
    ∙ sym (half (bit_and n b) (bit_and n c) ∙ ap₂ bit_xor (and_shr n b 1) (and_shr n c 1)))
    (and_mod n (bit_xor b c) 1 ∙ ap (bit_and (n % 2)) (odd b c) ∙ and_of_bits (n % 2) (b % 2) (c % 2) (bit< n) (bit< b) (bit< c)
    ∙ sym (odd (bit_and n b) (bit_and n c) ∙ ap₂ bit_xor (and_mod n b 1) (and_mod n c 1)))) a
