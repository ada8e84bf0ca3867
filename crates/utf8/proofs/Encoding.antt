-- The encoding of a scalar value is a UTF8-char, and each UTF8-char is the encoding of one scalar value.
-- Assumes nothing.
use Prim.Native.Nat.{ℕ, ◌+◌, ◌-◌, ◌*◌, ◌/◌, ◌%◌, ◌<◌, ◌≤◌}
use mathlib.Core.Path.{◌≡◌, refl, ◌∙◌}
use mathlib.Core.Bool.{true, ◌||◌}
use mathlib.Core.List.{List, [], ◌∷◌}
use mathlib.Core.Logic.{◌⊎◌, inl, inr, ⊎_elim}
use native.Mathlib.Omega.{arith}
use borrow.Author.Tests.{le-leb, lt-leb}
use Rattle.octets.proofs.Equality.{and_true, true_and}
use Rattle.octets.proofs.Lists.{le_or_lt}
use Rattle.utf8.specs.Utf8.{within, tail, utf8_1, utf8_2, utf8_3, utf8_4, Scalar, encode}
use Rattle.utf8.proofs.Alternatives.{which3, which4, left, right, in1, in2, in3, in4, all3, all4, each3, each4}
use Rattle.utf8.proofs.Ranges.{In, in_range, ranged, of3, of4}

-- ---- scalar values

low_scalar : (c : ℕ) → c < 0xd800 → Scalar c
low_scalar c h = (omega arith, λ l k. omega arith)

high_scalar : (c : ℕ) → 0xe000 ≤ c → c ≤ 0x10ffff → Scalar c
high_scalar c h k = (k, λ l m. omega arith)

-- ---- the four rows of the table

pub encode1 : (c : ℕ) → c ≤ 0x7f → encode c ≡ c ∷ []
unfolding encode
encode1 c h = rw (le-leb c 0x7f h)

pub encode2 : (c : ℕ) → 0x7f < c → c ≤ 0x7ff → encode c ≡ (0xc0 + c / 64) ∷ (0x80 + c % 64) ∷ []
unfolding encode
encode2 c l h = rw (lt-leb c 0x7f l, le-leb c 0x7ff h)

pub encode3 : (c : ℕ) → 0x7ff < c → c ≤ 0xffff → encode c ≡ (0xe0 + c / 4096) ∷ (0x80 + c / 64 % 64) ∷ (0x80 + c % 64) ∷ []
unfolding encode
encode3 c l h = rw (lt-leb c 0x7f (omega arith), lt-leb c 0x7ff l, le-leb c 0xffff h)

pub encode4 : (c : ℕ) → 0xffff < c → encode c ≡ (0xf0 + c / 262144) ∷ (0x80 + c / 4096 % 64) ∷ (0x80 + c / 64 % 64) ∷ (0x80 + c % 64) ∷ []
unfolding encode
encode4 c l = rw (lt-leb c 0x7f (omega arith), lt-leb c 0x7ff (omega arith), lt-leb c 0xffff l)

-- ---- of a scalar value

pub formed1 : (c : ℕ) → c ≤ 0x7f → utf8_1 c ≡ true
unfolding utf8_1
formed1 c h = ranged 0x00 0x7f c (omega arith) h

pub formed2 : (c : ℕ) → 0x7f < c → c ≤ 0x7ff → utf8_2 (0xc0 + c / 64) (0x80 + c % 64) ≡ true
unfolding utf8_2
formed2 c l h =
    true_and (within 0xc2 0xdf (0xc0 + c / 64)) (tail (0x80 + c % 64)) (ranged 0xc2 0xdf (0xc0 + c / 64) (omega arith) (omega arith))
    (ranged 0x80 0xbf (0x80 + c % 64) (omega arith) (omega arith))

tail_of : (x : ℕ) → tail (0x80 + x % 64) ≡ true
tail_of x = ranged 0x80 0xbf (0x80 + x % 64) (omega arith) (omega arith)

pub formed3 : (c : ℕ) → 0x7ff < c → c ≤ 0xffff → (c < 0xd800) ⊎ (0xe000 ≤ c) → utf8_3 (0xe0 + c / 4096) (0x80 + c / 64 % 64) (0x80 + c % 64) ≡ true
unfolding utf8_3
formed3 c l h k =
    ⊎_elim (λ (p : 0x1000 ≤ c).
    ⊎_elim (λ (lo : c < 0xd800).
    ⊎_elim (λ (q : 0xd000 ≤ c).
    in3 (of3 0 x y z) (of3 1 x y z) (of3 2 x y z) (of3 3 x y z)
    (all3 (within 0xed 0xed x) (within 0x80 0x9f y) (tail z) (ranged 0xed 0xed x (omega arith) (omega arith)) (ranged 0x80 0x9f y (omega arith) (omega arith)) (tail_of c)))
    (λ (q : c < 0xd000).
    in2 (of3 0 x y z) (of3 1 x y z) (of3 2 x y z) (of3 3 x y z)
    (all3 (within 0xe1 0xec x) (tail y) (tail z) (ranged 0xe1 0xec x (omega arith) (omega arith)) (tail_of (c / 64)) (tail_of c)))
    (le_or_lt 0xd000 c))
    (λ (hi : 0xe000 ≤ c).
    in4 (of3 0 x y z) (of3 1 x y z) (of3 2 x y z) (of3 3 x y z)
    (all3 (within 0xee 0xef x) (tail y) (tail z) (ranged 0xee 0xef x (omega arith) (omega arith)) (tail_of (c / 64)) (tail_of c)))
    k)
    (λ (p : c < 0x1000).
    in1 (of3 0 x y z) (of3 1 x y z) (of3 2 x y z) (of3 3 x y z)
    (all3 (within 0xe0 0xe0 x) (within 0xa0 0xbf y) (tail z) (ranged 0xe0 0xe0 x (omega arith) (omega arith)) (ranged 0xa0 0xbf y (omega arith) (omega arith)) (tail_of c)))
    (le_or_lt 0x1000 c)
  where
    x : ℕ
    x = 0xe0 + c / 4096

    y : ℕ
    y = 0x80 + c / 64 % 64

    z : ℕ
    z = 0x80 + c % 64

pub formed4 : (c : ℕ) → 0xffff < c → c ≤ 0x10ffff → utf8_4 (0xf0 + c / 262144) (0x80 + c / 4096 % 64) (0x80 + c / 64 % 64) (0x80 + c % 64) ≡ true
unfolding utf8_4
formed4 c l h =
    ⊎_elim (λ (p : 0x40000 ≤ c).
    ⊎_elim (λ (q : 0x100000 ≤ c).
    right (of4 0 x y z w || of4 1 x y z w) (of4 2 x y z w)
    (all4 (within 0xf4 0xf4 x) (within 0x80 0x8f y) (tail z) (tail w) (ranged 0xf4 0xf4 x (omega arith) (omega arith)) (ranged 0x80 0x8f y (omega arith) (omega arith)) (tail_of (c / 64)) (tail_of c)))
    (λ (q : c < 0x100000).
    left (of4 0 x y z w || of4 1 x y z w) (of4 2 x y z w) (right (of4 0 x y z w) (of4 1 x y z w)
    (all4 (within 0xf1 0xf3 x) (tail y) (tail z) (tail w) (ranged 0xf1 0xf3 x (omega arith) (omega arith)) (tail_of (c / 4096)) (tail_of (c / 64)) (tail_of c))))
    (le_or_lt 0x100000 c))
    (λ (p : c < 0x40000).
    left (of4 0 x y z w || of4 1 x y z w) (of4 2 x y z w) (left (of4 0 x y z w) (of4 1 x y z w)
    (all4 (within 0xf0 0xf0 x) (within 0x90 0xbf y) (tail z) (tail w) (ranged 0xf0 0xf0 x (omega arith) (omega arith)) (ranged 0x90 0xbf y (omega arith) (omega arith)) (tail_of (c / 64)) (tail_of c))))
    (le_or_lt 0x40000 c)
  where
    x : ℕ
    x = 0xf0 + c / 262144

    y : ℕ
    y = 0x80 + c / 4096 % 64

    z : ℕ
    z = 0x80 + c / 64 % 64

    w : ℕ
    w = 0x80 + c % 64

-- ---- of a UTF8-char

-- The scalar value whose encoding the bytes are.
abbrev pub Read : List ℕ → Type 0
Read s = (c : ℕ) × Scalar c × (encode c ≡ s)

pub read1 : (a : ℕ) → utf8_1 a ≡ true → Read (a ∷ [])
unfolding utf8_1
read1 a h = let k = (in_range 0x00 0x7f a h).1 in (a, low_scalar a (omega arith), encode1 a k)

pub read2 : (a b : ℕ) → utf8_2 a b ≡ true → Read (a ∷ b ∷ [])
unfolding utf8_2
read2 a b h =
    let p = and_true (within 0xc2 0xdf a) (tail b) h in
    let (i, j) = in_range 0xc2 0xdf a p.0 in
    let (k, l) = in_range 0x80 0xbf b p.1 in
    let x = a - 0xc0 in
    let y = b - 0x80 in
    let ex : a ≡ 0xc0 + x = omega arith in
    let ey : b ≡ 0x80 + y = omega arith in
    let c = x * 64 + y in
    let u : 0xc0 + c / 64 ≡ a = omega arith in
    let v : 0x80 + c % 64 ≡ b = omega arith in
    (c, low_scalar c (omega arith), encode2 c (omega arith) (omega arith) ∙ rw (u, v))

-- By the three parts of the number.
parts3 : (a b c : ℕ) → In 0xe0 0xef a → In 0x80 0xbf b → In 0x80 0xbf c
    → (n : ℕ) × (n ≡ (a - 0xe0) * 4096 + (b - 0x80) * 64 + (c - 0x80)) × (n ≤ 0xffff) × (0x7ff < n → encode n ≡ a ∷ b ∷ c ∷ [])
parts3 a b c (p, q) (r, s) (t, u) =
    let x = a - 0xe0 in
    let y = b - 0x80 in
    let z = c - 0x80 in
    let ex : a ≡ 0xe0 + x = omega arith in
    let ey : b ≡ 0x80 + y = omega arith in
    let ez : c ≡ 0x80 + z = omega arith in
    let n = x * 4096 + y * 64 + z in
    let e : 0xe0 + n / 4096 ≡ a = omega arith in
    let f : 0x80 + n / 64 % 64 ≡ b = omega arith in
    let g : 0x80 + n % 64 ≡ c = omega arith in
    let h : n ≤ 0xffff = omega arith in
    (n, refl, h, λ l. encode3 n l h ∙ rw (e, f, g))

pub read3 : (a b c : ℕ) → utf8_3 a b c ≡ true → Read (a ∷ b ∷ c ∷ [])
unfolding utf8_3
read3 a b c h = ⊎_elim first (⊎_elim second (⊎_elim third fourth)) (which4 (of3 0 a b c) (of3 1 a b c) (of3 2 a b c) (of3 3 a b c) h)
  where
    low : In 0xe0 0xef a → In 0x80 0xbf b → In 0x80 0xbf c → 0x7ff < (a - 0xe0) * 4096 + (b - 0x80) * 64 + (c - 0x80) → (a - 0xe0) * 4096 + (b - 0x80) * 64 + (c - 0x80) < 0xd800 → Read (a ∷ b ∷ c ∷ [])
    low p q r l k = let (n, e, m, f) = parts3 a b c p q r in (n, low_scalar n (omega arith), f (omega arith))

    high : In 0xe0 0xef a → In 0x80 0xbf b → In 0x80 0xbf c → 0xe000 ≤ (a - 0xe0) * 4096 + (b - 0x80) * 64 + (c - 0x80) → Read (a ∷ b ∷ c ∷ [])
    high p q r l = let (n, e, m, f) = parts3 a b c p q r in (n, high_scalar n (omega arith) (omega arith), f (omega arith))

    first : of3 0 a b c ≡ true → Read (a ∷ b ∷ c ∷ [])
    first t =
        let s = each3 (within 0xe0 0xe0 a) (within 0xa0 0xbf b) (tail c) t in
        let p = in_range 0xe0 0xe0 a s.0 in
        let q = in_range 0xa0 0xbf b s.1 in
        let r = in_range 0x80 0xbf c s.2 in
        low (omega arith, omega arith) (omega arith, omega arith) r (omega arith) (omega arith)

    second : of3 1 a b c ≡ true → Read (a ∷ b ∷ c ∷ [])
    second t =
        let s = each3 (within 0xe1 0xec a) (tail b) (tail c) t in
        let p = in_range 0xe1 0xec a s.0 in
        let q = in_range 0x80 0xbf b s.1 in
        let r = in_range 0x80 0xbf c s.2 in
        low (omega arith, omega arith) q r (omega arith) (omega arith)

    third : of3 2 a b c ≡ true → Read (a ∷ b ∷ c ∷ [])
    third t =
        let s = each3 (within 0xed 0xed a) (within 0x80 0x9f b) (tail c) t in
        let p = in_range 0xed 0xed a s.0 in
        let q = in_range 0x80 0x9f b s.1 in
        let r = in_range 0x80 0xbf c s.2 in
        low (omega arith, omega arith) (omega arith, omega arith) r (omega arith) (omega arith)

    fourth : of3 3 a b c ≡ true → Read (a ∷ b ∷ c ∷ [])
    fourth t =
        let s = each3 (within 0xee 0xef a) (tail b) (tail c) t in
        let p = in_range 0xee 0xef a s.0 in
        let q = in_range 0x80 0xbf b s.1 in
        let r = in_range 0x80 0xbf c s.2 in
        high (omega arith, omega arith) q r (omega arith)

-- By the four parts of the number.
parts4 : (a b c d : ℕ) → In 0xf0 0xf4 a → In 0x80 0xbf b → In 0x80 0xbf c → In 0x80 0xbf d
    → 0xffff < (a - 0xf0) * 262144 + (b - 0x80) * 4096 + (c - 0x80) * 64 + (d - 0x80) → (a - 0xf0) * 262144 + (b - 0x80) * 4096 + (c - 0x80) * 64 + (d - 0x80) ≤ 0x10ffff
    → Read (a ∷ b ∷ c ∷ d ∷ [])
parts4 a b c d (p, q) (r, s) (t, u) (v, w) l k =
    let x = a - 0xf0 in
    let y = b - 0x80 in
    let z = c - 0x80 in
    let o = d - 0x80 in
    let ex : a ≡ 0xf0 + x = omega arith in
    let ey : b ≡ 0x80 + y = omega arith in
    let ez : c ≡ 0x80 + z = omega arith in
    let eo : d ≡ 0x80 + o = omega arith in
    let n = x * 262144 + y * 4096 + z * 64 + o in
    let e : 0xf0 + n / 262144 ≡ a = omega arith in
    let f : 0x80 + n / 4096 % 64 ≡ b = omega arith in
    let g : 0x80 + n / 64 % 64 ≡ c = omega arith in
    let h : 0x80 + n % 64 ≡ d = omega arith in
    (n, high_scalar n (omega arith) k, encode4 n l ∙ rw (e, f, g, h))

pub read4 : (a b c d : ℕ) → utf8_4 a b c d ≡ true → Read (a ∷ b ∷ c ∷ d ∷ [])
unfolding utf8_4
read4 a b c d h = ⊎_elim first (⊎_elim second third) (which3 (of4 0 a b c d) (of4 1 a b c d) (of4 2 a b c d) h)
  where
    first : of4 0 a b c d ≡ true → Read (a ∷ b ∷ c ∷ d ∷ [])
    first t =
        let s = each4 (within 0xf0 0xf0 a) (within 0x90 0xbf b) (tail c) (tail d) t in
        let p = in_range 0xf0 0xf0 a s.0 in
        let q = in_range 0x90 0xbf b s.1 in
        let r = in_range 0x80 0xbf c s.2 in
        let o = in_range 0x80 0xbf d s.3 in
        parts4 a b c d (omega arith, omega arith) (omega arith, omega arith) r o (omega arith) (omega arith)

    second : of4 1 a b c d ≡ true → Read (a ∷ b ∷ c ∷ d ∷ [])
    second t =
        let s = each4 (within 0xf1 0xf3 a) (tail b) (tail c) (tail d) t in
        let p = in_range 0xf1 0xf3 a s.0 in
        let q = in_range 0x80 0xbf b s.1 in
        let r = in_range 0x80 0xbf c s.2 in
        let o = in_range 0x80 0xbf d s.3 in
        parts4 a b c d (omega arith, omega arith) q r o (omega arith) (omega arith)

    third : of4 2 a b c d ≡ true → Read (a ∷ b ∷ c ∷ d ∷ [])
    third t =
        let s = each4 (within 0xf4 0xf4 a) (within 0x80 0x8f b) (tail c) (tail d) t in
        let p = in_range 0xf4 0xf4 a s.0 in
        let q = in_range 0x80 0x8f b s.1 in
        let r = in_range 0x80 0xbf c s.2 in
        let o = in_range 0x80 0xbf d s.3 in
        parts4 a b c d (omega arith, omega arith) (omega arith, omega arith) r o (omega arith) (omega arith)

-- ---- the row of a scalar value

pub data Table : ℕ → Type 0 where
  row1 : {c : ℕ} → c ≤ 0x7f → Table c
  row2 : {c : ℕ} → 0x7f < c → c ≤ 0x7ff → Table c
  row3 : {c : ℕ} → 0x7ff < c → c ≤ 0xffff → (c < 0xd800) ⊎ (0xe000 ≤ c) → Table c
  row4 : {c : ℕ} → 0xffff < c → c ≤ 0x10ffff → Table c

no_surrogate : (c : ℕ) → Scalar c → (c < 0xd800) ⊎ (0xe000 ≤ c)
no_surrogate c h =
    ⊎_elim (λ (p : 0xe000 ≤ c). inr p) (λ (p : c < 0xe000). ⊎_elim (λ (q : 0xd800 ≤ c). absurd (h.1 q (omega arith))) (λ (q : c < 0xd800). inl q) (le_or_lt 0xd800 c)) (le_or_lt 0xe000 c)

pub table : (c : ℕ) → Scalar c → Table c
table c h =
    ⊎_elim (λ (p : 0x80 ≤ c).
    ⊎_elim (λ (q : 0x800 ≤ c).
    ⊎_elim (λ (r : 0x10000 ≤ c). row4 (omega arith) h.0) (λ (r : c < 0x10000). row3 (omega arith) (omega arith) (no_surrogate c h)) (le_or_lt 0x10000 c))
    (λ (q : c < 0x800). row2 (omega arith) (omega arith))
    (le_or_lt 0x800 c))
    (λ (p : c < 0x80). row1 (omega arith))
    (le_or_lt 0x80 c)
