-- A byte times x; and the multiples of a byte that InvMixColumns adds up, as sums of its products with powers of x, by one test over all bytes.
-- Assumes nothing.
use Prim.Native.Nat.{ℕ, ◌-◌, ◌*◌, ◌/◌, ◌%◌, ◌<◌, ◌≤◌}
use mathlib.Core.Path.{◌≡◌, sym, ap₂, ◌∙◌}
use mathlib.Core.Bool.{Bool, ◌&&◌}
use native.Mathlib.Omega.{arith}
use lib.Dec.{T, eqb, eqb→eq}
use lib.Bits.{bit_xor, xor_zero_r}
use Rattle.octets.specs.Words.{HasBytes}
use Rattle.octets.proofs.Tables.{all, all_at, and_left, and_right}
use Rattle.octets.proofs.Words.{renamed}
use Rattle.aes_spec.specs.Field.{xtimes, mul_bits, mul}
use Rattle.aes.proofs.Columns.{RotatedSum, xor4_of}
use Rattle.aes_inverse.specs.RoundKeys.{UnmixedBytes}

pub times_x_low : (b : ℕ) → b < 128 → b * 2 ≡ xtimes b
unfolding xtimes
times_x_low b h =
    let e : b * 2 % 256 ≡ b * 2 = omega arith in
    let f : b / 128 * 0x1b ≡ 0 = omega arith in
    sym (ap₂ bit_xor e f ∙ xor_zero_r (b * 2))

pub times_x_high : (b : ℕ) → 128 ≤ b → b < 256 → bit_xor ((b - 128) * 2) 0x1b ≡ xtimes b
unfolding xtimes
times_x_high b l h =
    let e : b * 2 % 256 ≡ (b - 128) * 2 = omega arith in
    let f : b / 128 * 0x1b ≡ 0x1b = omega arith in
    sym (ap₂ bit_xor e f)

-- ---- the multiples of a byte

abbrev x1 : ℕ → ℕ
x1 b = xtimes b

abbrev x2 : ℕ → ℕ
x2 b = xtimes (x1 b)

abbrev x3 : ℕ → ℕ
x3 b = xtimes (x2 b)

-- The tests of the first two sums, and of the last two.
abbrev front : ℕ → Bool
front b = eqb (bit_xor (bit_xor (x3 b) (x2 b)) (x1 b)) (mul 0x0e b) && eqb (bit_xor (x3 b) b) (mul 0x09 b)

abbrev back : ℕ → Bool
back b = eqb (bit_xor (bit_xor (x3 b) (x2 b)) b) (mul 0x0d b) && eqb (bit_xor (bit_xor (x3 b) (x1 b)) b) (mul 0x0b b)

obeys : ℕ → Bool
obeys b = front b && back b

all_obey : T (all obeys 256)
unfolding obeys xtimes mul_bits mul
all_obey = tt

-- w has the multiples of b.
abbrev pub Multiples : ℕ → ℕ → Type 0
Multiples w b = HasBytes w (mul 0x0e b) (mul 0x09 b) (mul 0x0d b) (mul 0x0b b)

pub multiples : {w : ℕ} (b : ℕ) → b < 256
    → HasBytes w (bit_xor (bit_xor (x3 b) (x2 b)) (x1 b)) (bit_xor (x3 b) b) (bit_xor (bit_xor (x3 b) (x2 b)) b) (bit_xor (bit_xor (x3 b) (x1 b)) b)
    → Multiples w b
unfolding obeys
multiples b h e =
    let t = all_at obeys 256 all_obey b h in
    let l = and_left (front b) (back b) t in
    let r = and_right (front b) (back b) t in
    let e0 = eqb (bit_xor (bit_xor (x3 b) (x2 b)) (x1 b)) (mul 0x0e b) in
    let e1 = eqb (bit_xor (x3 b) b) (mul 0x09 b) in
    let e2 = eqb (bit_xor (bit_xor (x3 b) (x2 b)) b) (mul 0x0d b) in
    let e3 = eqb (bit_xor (bit_xor (x3 b) (x1 b)) b) (mul 0x0b b) in
    renamed e (eqb→eq _ _ (and_left e0 e1 l)) (eqb→eq _ _ (and_right e0 e1 l)) (eqb→eq _ _ (and_left e2 e3 r)) (eqb→eq _ _ (and_right e2 e3 r))

-- ---- a column under InvMixColumns

-- A column of words of multiples, rotated.
pub summed : {t0 t1 t2 t3 r : ℕ} (a b c d : ℕ) → Multiples t0 a → Multiples t1 b → Multiples t2 c → Multiples t3 d → RotatedSum r t0 t1 t2 t3 → UnmixedBytes r a b c d
summed a b c d e0 e1 e2 e3 h =
    renamed h
    (xor4_of e0.at0 e1.at3 e2.at2 e3.at1)
    (xor4_of e0.at1 e1.at0 e2.at3 e3.at2)
    (xor4_of e0.at2 e1.at1 e2.at0 e3.at3)
    (xor4_of e0.at3 e1.at2 e2.at1 e3.at0)
