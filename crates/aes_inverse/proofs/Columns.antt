-- INVMIXCOLUMNS undoes MIXCOLUMNS, and MIXCOLUMNS it. The product is additive in its second factor, so that what a column's byte adds to
-- each byte of the result can be tested byte by byte: it adds itself in its own row, and 0 in every other.
-- Assumes nothing.
use Prim.Native.Nat.{ℕ, zero, suc, ◌+◌, ◌-◌, ◌*◌, ◌/◌, ◌%◌, ◌^◌, ◌<◌}
use mathlib.Core.Path.{◌≡◌, refl, sym, ap, ap₂, ◌∙◌}
use mathlib.Core.Bool.{Bool, true, false, cond}
use mathlib.Core.List.{List, [], ◌∷◌}
use native.Mathlib.Nat.{not-suc-le-zero, le_of_suc-le-suc, mod-lt, zero-lt-suc, div-add-mod'}
use native.Mathlib.Omega.{arith}
use lib.Dec.{T, eqb, eqb→eq, lit<}
use lib.ListN.{length, get_or}
use lib.Bits.{bit_xor, xor_shr, xor_mod, xor_zero_r, xor_zero_l, xor_self, xor_shifted}
use Rattle.octets.specs.Bytes.{Bytes}
use Rattle.octets.proofs.Bits.{xor_parts}
use Rattle.octets.proofs.Bytes.{below_drop}
use Rattle.octets.proofs.Tables.{all, all_at}
use Rattle.aes_spec.specs.Field.{xtimes, mul_bits, mul}
use Rattle.aes_spec.specs.Cipher.{xor4, mix_columns}
use Rattle.aes_inverse.specs.InverseCipher.{inv_mix_columns}

-- ---- sums

pub pair : (a b c d e f g h : ℕ) → bit_xor (xor4 a b c d) (xor4 e f g h) ≡ xor4 (bit_xor a e) (bit_xor b f) (bit_xor c g) (bit_xor d h)
pair a b c d e f g h =
    xor_parts (bit_xor (bit_xor a b) c) d (bit_xor (bit_xor e f) g) h
    ∙ ap (λ (x : ℕ). bit_xor x (bit_xor d h))
    (xor_parts (bit_xor a b) c (bit_xor e f) g ∙ ap (λ (x : ℕ). bit_xor x (bit_xor c g)) (xor_parts a b e f))

-- Equal summands.
pub four : {p q s t p' q' s' t' : ℕ} → p ≡ p' → q ≡ q' → s ≡ s' → t ≡ t' → xor4 p q s t ≡ xor4 p' q' s' t'
four e f g h = ap₂ bit_xor (ap₂ bit_xor (ap₂ bit_xor e f) g) h

-- A sum of four sums of four, by columns in place of rows.
transposed : (a b c d e f g h i j k l m n o p : ℕ)
    → xor4 (xor4 a b c d) (xor4 e f g h) (xor4 i j k l) (xor4 m n o p) ≡ xor4 (xor4 a e i m) (xor4 b f j n) (xor4 c g k o) (xor4 d h l p)
transposed a b c d e f g h i j k l m n o p =
    ap (λ (x : ℕ). bit_xor (bit_xor x (xor4 i j k l)) (xor4 m n o p)) (pair a b c d e f g h)
    ∙ ap (λ (x : ℕ). bit_xor x (xor4 m n o p)) (pair (bit_xor a e) (bit_xor b f) (bit_xor c g) (bit_xor d h) i j k l)
    ∙ pair (bit_xor (bit_xor a e) i) (bit_xor (bit_xor b f) j) (bit_xor (bit_xor c g) k) (bit_xor (bit_xor d h) l) m n o p

-- ---- products

digit : (x y a : ℕ) → x < 2 → y < 2 → bit_xor x y * a ≡ bit_xor (x * a) (y * a)
digit x y a p q = go x y p q
  where
    none : 0 * a ≡ 0
    none = omega arith

    one : 1 * a ≡ a
    one = omega arith

    go : (x y : ℕ) → x < 2 → y < 2 → bit_xor x y * a ≡ bit_xor (x * a) (y * a)
    go zero zero p q = rw none
    go zero (suc zero) p q = rw (none, one)
    go zero (suc (suc y)) p q = absurd (not-suc-le-zero (le_of_suc-le-suc (le_of_suc-le-suc q)))
    go (suc zero) zero p q = rw (one, none) (sym (xor_zero_r a))
    go (suc zero) (suc zero) p q = rw (one, none) (sym (xor_self a))
    go (suc zero) (suc (suc y)) p q = absurd (not-suc-le-zero (le_of_suc-le-suc (le_of_suc-le-suc q)))
    go (suc (suc x)) y p q = absurd (not-suc-le-zero (le_of_suc-le-suc (le_of_suc-le-suc p)))

mul_bits_sum : (k a b c : ℕ) → mul_bits k a (bit_xor b c) ≡ bit_xor (mul_bits k a b) (mul_bits k a c)
unfolding mul_bits
mul_bits_sum zero a b c = refl
mul_bits_sum (suc k) a b c =
    ap₂ bit_xor
    (ap (λ (x : ℕ). x * a) (xor_mod b c 1) ∙ digit (b % 2) (c % 2) a (mod-lt b (zero-lt-suc 1)) (mod-lt c (zero-lt-suc 1)))
    (ap (mul_bits k (xtimes a)) (xor_shr b c 1) ∙ mul_bits_sum k (xtimes a) (b / 2) (c / 2))
    ∙ xor_parts (b % 2 * a) (c % 2 * a) (mul_bits k (xtimes a) (b / 2)) (mul_bits k (xtimes a) (c / 2))

pub mul_sum : (a b c : ℕ) → mul a (bit_xor b c) ≡ bit_xor (mul a b) (mul a c)
unfolding mul
mul_sum a b c = mul_bits_sum 8 a b c

-- A byte times a coefficient of a column's matrix; what has no factor there has the factor 1 here.
abbrev times : ℕ → ℕ → ℕ
times zero x = 0
times (suc zero) x = x
times (suc (suc k)) x = mul (suc (suc k)) x

times_sum : (k b c : ℕ) → times k (bit_xor b c) ≡ bit_xor (times k b) (times k c)
times_sum zero b c = refl
times_sum (suc zero) b c = refl
times_sum (suc (suc k)) b c = mul_sum (suc (suc k)) b c

times_four : (k a b c d : ℕ) → times k (xor4 a b c d) ≡ xor4 (times k a) (times k b) (times k c) (times k d)
times_four k a b c d =
    times_sum k (bit_xor (bit_xor a b) c) d
    ∙ ap (λ (x : ℕ). bit_xor x (times k d)) (times_sum k (bit_xor a b) c ∙ ap (λ (x : ℕ). bit_xor x (times k c)) (times_sum k a b))

-- ---- matrices: those of 5.1.3 and 5.3.3, by row and column

abbrev Matrix : Type 0
Matrix = ℕ → ℕ → ℕ

abbrev mix : Matrix
mix r c = get_or (2 ∷ 3 ∷ 1 ∷ 1 ∷ []) ((c + 4 - r) % 4) 0

abbrev unmix : Matrix
unmix r c = get_or (0x0e ∷ 0x0b ∷ 0x0d ∷ 0x09 ∷ []) ((c + 4 - r) % 4) 0

-- The byte in row r of a matrix times a column.
abbrev row : Matrix → ℕ → ℕ → ℕ → ℕ → ℕ → ℕ
row M r a b c d = xor4 (times (M r 0) a) (times (M r 1) b) (times (M r 2) c) (times (M r 3) d)

-- What the byte x in row j of a column adds to row r of M times (N times the column).
abbrev entry : Matrix → Matrix → ℕ → ℕ → ℕ → ℕ
entry M N r j x = xor4 (times (M r 0) (times (N 0 j) x)) (times (M r 1) (times (N 1 j) x)) (times (M r 2) (times (N 2 j) x)) (times (M r 3) (times (N 3 j) x))

twice : (M N : Matrix) (r a b c d : ℕ)
    → row M r (row N 0 a b c d) (row N 1 a b c d) (row N 2 a b c d) (row N 3 a b c d) ≡ xor4 (entry M N r 0 a) (entry M N r 1 b) (entry M N r 2 c) (entry M N r 3 d)
twice M N r a b c d =
    four (times_four (M r 0) (times (N 0 0) a) (times (N 0 1) b) (times (N 0 2) c) (times (N 0 3) d))
    (times_four (M r 1) (times (N 1 0) a) (times (N 1 1) b) (times (N 1 2) c) (times (N 1 3) d))
    (times_four (M r 2) (times (N 2 0) a) (times (N 2 1) b) (times (N 2 2) c) (times (N 2 3) d))
    (times_four (M r 3) (times (N 3 0) a) (times (N 3 1) b) (times (N 3 2) c) (times (N 3 3) d))
    ∙ transposed (of 0 0 a) (of 0 1 b) (of 0 2 c) (of 0 3 d) (of 1 0 a) (of 1 1 b) (of 1 2 c) (of 1 3 d)
    (of 2 0 a) (of 2 1 b) (of 2 2 c) (of 2 3 d) (of 3 0 a) (of 3 1 b) (of 3 2 c) (of 3 3 d)
  where
    of : ℕ → ℕ → ℕ → ℕ
    of i j x = times (M r i) (times (N i j) x)

-- In row r the byte x in row j of the column must add itself where r is j, and 0 elsewhere.
abbrev unit : ℕ → ℕ → ℕ → ℕ
unit r j x = cond (eqb r j) x 0

unit_sum : (r j x y : ℕ) → unit r j (bit_xor x y) ≡ bit_xor (unit r j x) (unit r j y)
unit_sum r j x y = go (eqb r j)
  where
    go : (t : Bool) → cond t (bit_xor x y) 0 ≡ bit_xor (cond t x 0) (cond t y 0)
    go true = refl
    go false = refl

-- The test of a byte, in each row of the column and each row of the result.
right : Matrix → Matrix → ℕ → Bool
right M N x = all (λ r. all (λ j. eqb (entry M N r j x) (unit r j x)) 4) 4

-- Both sides are additive, so that to test the sixteen bytes of four low bits and the sixteen of four high bits is enough.
abbrev Passes : Matrix → Matrix → Type 0
Passes M N = T (all (right M N) 16) × T (all (λ k. right M N (k * 2 ^ 4)) 16)

unmixed : Passes unmix mix
unfolding right xtimes mul_bits mul
unmixed = (tt, tt)

mixed : Passes mix unmix
unfolding right xtimes mul_bits mul
mixed = (tt, tt)

module _ (M N : Matrix) where
  entry_sum : (r j x y : ℕ) → entry M N r j (bit_xor x y) ≡ bit_xor (entry M N r j x) (entry M N r j y)
  entry_sum r j x y =
      four (at 0) (at 1) (at 2) (at 3)
      ∙ sym (pair (of 0 x) (of 1 x) (of 2 x) (of 3 x) (of 0 y) (of 1 y) (of 2 y) (of 3 y))
    where
      of : ℕ → ℕ → ℕ
      of i x = times (M r i) (times (N i j) x)

      at : (i : ℕ) → times (M r i) (times (N i j) (bit_xor x y)) ≡ bit_xor (times (M r i) (times (N i j) x)) (times (M r i) (times (N i j) y))
      at i = ap (times (M r i)) (times_sum (N i j) x y) ∙ times_sum (M r i) (times (N i j) x) (times (N i j) y)

  right_is : (r j x : ℕ) → r < 4 → j < 4 → T (right M N x) → entry M N r j x ≡ unit r j x
  unfolding right
  right_is r j x h k t =
      eqb→eq (entry M N r j x) (unit r j x)
      (all_at (λ (j : ℕ). eqb (entry M N r j x) (unit r j x)) 4 (all_at (λ (r : ℕ). all (λ j. eqb (entry M N r j x) (unit r j x)) 4) 4 t r h) j k)

  entry_is : Passes M N → (r j x : ℕ) → r < 4 → j < 4 → x < 256 → entry M N r j x ≡ unit r j x
  entry_is p r j x h k l =
      let a = x / 2 ^ 4 in
      let b = x % 2 ^ 4 in
      let d : b < 2 ^ 4 = mod-lt x (lit< tt) in
      let e : x ≡ bit_xor (a * 2 ^ 4) b = sym (xor_shifted a 4 b d ∙ div-add-mod' x (2 ^ 4)) in
      let u : entry M N r j (a * 2 ^ 4) ≡ unit r j (a * 2 ^ 4) = right_is r j (a * 2 ^ 4) h k (all_at (λ (k : ℕ). right M N (k * 2 ^ 4)) 16 p.1 a (omega arith)) in
      let v : entry M N r j b ≡ unit r j b = right_is r j b h k (all_at (right M N) 16 p.0 b d) in
      ap (entry M N r j) e ∙ entry_sum r j (a * 2 ^ 4) b ∙ ap₂ bit_xor u v ∙ sym (unit_sum r j (a * 2 ^ 4) b) ∙ ap (unit r j) (sym e)

-- Row r of the two products is the column's byte in row r.
module _ (M N : Matrix) (p : Passes M N) (a b c d : ℕ) (ha : a < 256) (hb : b < 256) (hc : c < 256) (hd : d < 256) where
  in_row : (r : ℕ) → r < 4
      → row M r (row N 0 a b c d) (row N 1 a b c d) (row N 2 a b c d) (row N 3 a b c d) ≡ xor4 (unit r 0 a) (unit r 1 b) (unit r 2 c) (unit r 3 d)
  in_row r h =
      twice M N r a b c d
      ∙ four (entry_is M N p r 0 a h (lit< tt) ha) (entry_is M N p r 1 b h (lit< tt) hb) (entry_is M N p r 2 c h (lit< tt) hc) (entry_is M N p r 3 d h (lit< tt) hd)

  -- The column that comes back.
  column : (row M 0 (row N 0 a b c d) (row N 1 a b c d) (row N 2 a b c d) (row N 3 a b c d) ≡ a)
      × (row M 1 (row N 0 a b c d) (row N 1 a b c d) (row N 2 a b c d) (row N 3 a b c d) ≡ b)
      × (row M 2 (row N 0 a b c d) (row N 1 a b c d) (row N 2 a b c d) (row N 3 a b c d) ≡ c)
      × (row M 3 (row N 0 a b c d) (row N 1 a b c d) (row N 2 a b c d) (row N 3 a b c d) ≡ d)
  column = (
    in_row 0 (lit< tt) ∙ rw (xor_zero_r a, xor_zero_r a, xor_zero_r a),
    in_row 1 (lit< tt) ∙ rw (xor_zero_l b, xor_zero_r b, xor_zero_r b),
    in_row 2 (lit< tt) ∙ rw (xor_zero_l c, xor_zero_r c),
    in_row 3 (lit< tt) ∙ rw (xor_zero_l d),
  )

-- ---- columns of a state

abbrev Columns : (List ℕ → List ℕ) → (List ℕ → List ℕ) → Type 0
Columns f g = (n : ℕ) (s : List ℕ) → length s ≡ 4 * n → Bytes s → f (g s) ≡ s

pub columns_undone : Columns inv_mix_columns mix_columns
unfolding mix_columns inv_mix_columns
columns_undone n [] l h = refl
columns_undone n (a ∷ []) l h = absurd (omega arith)
columns_undone n (a ∷ b ∷ []) l h = absurd (omega arith)
columns_undone n (a ∷ b ∷ c ∷ []) l h = absurd (omega arith)
columns_undone zero (a ∷ b ∷ c ∷ d ∷ s) l h = absurd (omega arith)
columns_undone (suc n) (a ∷ b ∷ c ∷ d ∷ s) l h =
    let e = column unmix mix unmixed a b c d (h.at 0) (h.at 1) (h.at 2) (h.at 3) in
    let r : inv_mix_columns (mix_columns s) ≡ s = columns_undone n s (omega arith) (below_drop 4 h) in
    cc (e.0, e.1, e.2, e.3, r)

pub columns_redone : Columns mix_columns inv_mix_columns
unfolding mix_columns inv_mix_columns
columns_redone n [] l h = refl
columns_redone n (a ∷ []) l h = absurd (omega arith)
columns_redone n (a ∷ b ∷ []) l h = absurd (omega arith)
columns_redone n (a ∷ b ∷ c ∷ []) l h = absurd (omega arith)
columns_redone zero (a ∷ b ∷ c ∷ d ∷ s) l h = absurd (omega arith)
columns_redone (suc n) (a ∷ b ∷ c ∷ d ∷ s) l h =
    let e = column mix unmix mixed a b c d (h.at 0) (h.at 1) (h.at 2) (h.at 3) in
    let r : mix_columns (inv_mix_columns s) ≡ s = columns_redone n s (omega arith) (below_drop 4 h) in
    cc (e.0, e.1, e.2, e.3, r)
