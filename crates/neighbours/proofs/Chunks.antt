-- The chunks that cover two neighbouring ranges are those that cover the range of both; so the lowest bad one of it is the first range's, or else the second's.
-- Assumes nothing.
use mathlib.Core.Path.{◌≡◌}
use mathlib.Core.Logic.{◌⊎◌, inl, inr, ⊎_elim}
use mathlib.Core.Bool.{true}
use mathlib.Core.List.{List}
use Prim.Native.Nat.{ℕ, ◌+◌, ◌-◌, ◌/◌, ◌≤◌, ◌<◌}
use native.Mathlib.Omega.{arith}
use lib.ListN.{length}
use Rattle.octets.proofs.Lists.{le_or_lt}
use Rattle.frame.specs.Layout.{Sizes, chunk_size, covering, Inside, Covers}
use Rattle.frame.specs.Frame.{Codec, bad_chunk}
use Rattle.frame.specs.Statements.{WrongTag}
use Rattle.frame.proofs.Pieces.{covers_count}
use Rattle.frame.proofs.RowTen.{bad_is_bad, least}

-- ---- which chunks cover

module _ (z : Sizes) (l a b c : ℕ) (h : a ≤ b) (k : b ≤ c) where
  pub inside-first : Inside z l a (c - a) → Inside z l a (b - a)
  inside-first s = let w = s.within in record { right = s.right; within = omega arith }

  pub inside_second : Inside z l a (c - a) → Inside z l b (c - b)
  inside_second s = let w = s.within in record { right = s.right; within = omega arith }

  pub inside_both : Inside z l b (c - b) → Inside z l a (c - a)
  inside_both s = let w = s.within in record { right = s.right; within = omega arith }

  module _ (s : Inside z l a (c - a)) (i : ℕ) where
    first_covers : Covers z l a (b - a) i → Covers z l a (c - a) i
    first_covers v =
        let n = v.some in
        let u = v.high in
        record { inside = s; some = omega (arith, n, k); low = v.low; high = omega (arith, n, u, h, k) }

    second_covers : Covers z l b (c - b) i → Covers z l a (c - a) i
    second_covers v =
        let n = v.some in
        let t = v.low in
        let u = v.high in
        record { inside = s; some = omega (arith, n, h); low = omega (arith, t, h); high = omega (arith, n, u, h, k) }

    one_covers : Covers z l a (c - a) i → Covers z l a (b - a) i ⊎ Covers z l b (c - b) i
    one_covers v =
        let n = v.some in
        let t = v.low in
        let u = v.high in
        ⊎_elim (λ (x : b ≤ a). inr (record { inside = inside_second s; some = omega (arith, n, x); low = omega (arith, t, x); high = omega (arith, n, u, h, k) }))
        (λ (x : a < b).
        ⊎_elim (λ (y : i ≤ (a + (b - a) - 1) / chunk_size). inl (record { inside = inside-first s; some = omega (arith, x); low = t; high = y }))
        (λ (y : (a + (b - a) - 1) / chunk_size < i).
        inr (record { inside = inside_second s; some = omega (arith, n, u, x, y, h, k); low = omega (arith, x, y); high = omega (arith, n, u, h, k) }))
        (le_or_lt i ((a + (b - a) - 1) / chunk_size)))
        (le_or_lt b a)

-- ---- which of them is bad

-- the number after the last chunk of a range
abbrev pub behind : ℕ → ℕ → ℕ
behind from count = from / chunk_size + covering from count

module _ (C : Codec) (f : List ℕ) where
  open C use {sizes as z}

  abbrev bad : ℕ → ℕ → ℕ
  bad from count = bad_chunk C f from count

  is_wrong : (from count : ℕ) → Inside z (length f) from count → bad from count < behind from count → WrongTag C f from count (bad from count)
  is_wrong = bad_is_bad C (C.keys_right ≡ true) (λ e. e, λ e. e) f

  lowest : (from count i : ℕ) → WrongTag C f from count i → bad from count ≤ i
  lowest = least C (C.keys_right ≡ true) (λ e. e, λ e. e) f

  before-end : (from count i : ℕ) → WrongTag C f from count i → i < behind from count
  before-end from count i v = covers_count from count i v.0.some v.0.low v.0.high

  module _ (a b c : ℕ) (h : a ≤ b) (k : b ≤ c) (s : Inside z (length f) a (c - a)) where
    abbrev s_first : Inside z (length f) a (b - a)
    s_first = inside-first z (length f) a b c h k s

    abbrev s_second : Inside z (length f) b (c - b)
    s_second = inside_second z (length f) a b c h k s

    wrong_first : (i : ℕ) → WrongTag C f a (b - a) i → WrongTag C f a (c - a) i
    wrong_first i v = (first_covers z (length f) a b c h k s i v.0, v.1)

    wrong_second : (i : ℕ) → WrongTag C f b (c - b) i → WrongTag C f a (c - a) i
    wrong_second i v = (second_covers z (length f) a b c h k s i v.0, v.1)

    wrong_one : (i : ℕ) → WrongTag C f a (c - a) i → WrongTag C f a (b - a) i ⊎ WrongTag C f b (c - b) i
    wrong_one i v =
        ⊎_elim (λ (x : Covers z (length f) a (b - a) i). inl (x, v.1)) (λ (x : Covers z (length f) b (c - b) i). inr (x, v.1))
        (one_covers z (length f) a b c h k s i v.0)

    -- a bad chunk of the first range is the lowest of both
    pub bad_first : bad a (b - a) < behind a (b - a) → (bad a (c - a) ≡ bad a (b - a)) × (bad a (c - a) < behind a (c - a))
    bad_first p = let q = is_wrong a (b - a) s_first p in go q (wrong_first (bad a (b - a)) q)
      where
        go : WrongTag C f a (b - a) (bad a (b - a)) → WrongTag C f a (c - a) (bad a (b - a)) → (bad a (c - a) ≡ bad a (b - a)) × (bad a (c - a) < behind a (c - a))
        go q w =
            let d = lowest a (c - a) (bad a (b - a)) w in
            let e = before-end a (c - a) (bad a (b - a)) w in
            let o : bad a (c - a) < behind a (c - a) = omega (arith, d, e) in
            let high = q.0.high in
            let some = q.0.some in
            let g : bad a (b - a) ≤ bad a (c - a) =
            ⊎_elim (λ (x : WrongTag C f a (b - a) (bad a (c - a))). lowest a (b - a) (bad a (c - a)) x)
            (λ (x : WrongTag C f b (c - b) (bad a (c - a))). let low = x.0.low in omega (arith, high, some, low, h))
            (wrong_one (bad a (c - a)) (is_wrong a (c - a) s o)) in
            (omega (arith, d, g), o)

    -- where the first range has none, one of the second is
    pub bad_second : behind a (b - a) ≤ bad a (b - a) → bad b (c - b) < behind b (c - b) → (bad a (c - a) ≡ bad b (c - b)) × (bad a (c - a) < behind a (c - a))
    bad_second n p =
        let w = wrong_second (bad b (c - b)) (is_wrong b (c - b) s_second p) in
        let d = lowest a (c - a) (bad b (c - b)) w in
        let e = before-end a (c - a) (bad b (c - b)) w in
        let o : bad a (c - a) < behind a (c - a) = omega (arith, d, e) in
        let g : bad b (c - b) ≤ bad a (c - a) =
        ⊎_elim (λ (x : WrongTag C f a (b - a) (bad a (c - a))). absurd (none_first n (bad a (c - a)) x))
        (λ (x : WrongTag C f b (c - b) (bad a (c - a))). lowest b (c - b) (bad a (c - a)) x)
        (wrong_one (bad a (c - a)) (is_wrong a (c - a) s o)) in
        (omega (arith, d, g), o)
      where
        none_first : behind a (b - a) ≤ bad a (b - a) → (i : ℕ) → WrongTag C f a (b - a) i → ⊥
        none_first n i x =
            let u = lowest a (b - a) i x in
            let v = before-end a (b - a) i x in
            omega (arith, n, u, v)

    -- where neither has one, both have none
    pub bad_none : behind a (b - a) ≤ bad a (b - a) → behind b (c - b) ≤ bad b (c - b) → behind a (c - a) ≤ bad a (c - a)
    bad_none m n = ⊎_elim (λ (x : behind a (c - a) ≤ bad a (c - a)). x) (λ (x : bad a (c - a) < behind a (c - a)). absurd (some (bad a (c - a)) (is_wrong a (c - a) s x))) (le_or_lt (behind a (c - a)) (bad a (c - a)))
      where
        some : (i : ℕ) → WrongTag C f a (c - a) i → ⊥
        some i v =
            ⊎_elim (λ (x : WrongTag C f a (b - a) i). let u = lowest a (b - a) i x in let w = before-end a (b - a) i x in omega (arith, m, u, w))
            (λ (x : WrongTag C f b (c - b) i). let u = lowest b (c - b) i x in let w = before-end b (c - b) i x in omega (arith, n, u, w))
            (wrong_one i v)
