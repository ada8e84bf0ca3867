-- Laws of lists that the kit lacks.
-- Assumes nothing.
use Prim.Native.Nat.{ℕ, zero, suc, ◌+◌, ◌-◌, ◌≤◌, ◌<◌}
use mathlib.Core.Path.{◌≡◌, refl, sym, ap, ap₂, ◌∙◌}
use mathlib.Core.List.{List, [], ◌∷◌, ◌++◌, map, append-nil, append_assoc}
use mathlib.Core.Logic.{◌⊎◌, inl, inr}
use native.Mathlib.Nat.{not-suc-le-zero, le_of_suc-le-suc, add-zero}
use native.Mathlib.Numerals.{add-one}
use native.Mathlib.Decide.{dec_le}
use native.Mathlib.Omega.{arith}
use lib.ListN.{length, take, drop, get_or, set, replicate, length-append, length-take, length-drop, take-append-drop}
use lib.Seq.{take_all, take_at, drop_at, take-add, drop-append-add, drop-drop, length-take-le, get_or-append-add, get_or-drop, paste, take-paste, length_paste_head}
use Rattle.octets.specs.Bytes.{filled, placed}

pub drop_all : (n : ℕ) (l : List ℕ) → length l ≤ n → drop n l ≡ []
drop_all zero [] h = refl
drop_all zero (x ∷ l) h = absurd (not-suc-le-zero h)
drop_all (suc n) [] h = refl
drop_all (suc n) (x ∷ l) h = drop_all n l (le_of_suc-le-suc h)

pub le_or_lt : (m n : ℕ) → (m ≤ n) ⊎ (n < m)
le_or_lt m n = go (dec_le m n)
  where
    go : Dec (m ≤ n) → (m ≤ n) ⊎ (n < m)
    go (yes h) = inl h
    go (no h) = inr (omega arith)

-- What stands after the first k places, when these are replaced.
pub drop_front : (a d : List ℕ) (k m : ℕ) → length a ≡ k → k ≤ m → drop m (a ++ drop k d) ≡ drop m d
drop_front a d k m e h =
    let p : m ≡ length a + (m - k) = omega arith in
    let q : k + (m - k) ≡ m = omega arith in
    ap (λ (x : ℕ). drop x (a ++ drop k d)) p ∙ drop-append-add a (drop k d) (m - k) ∙ drop-drop (m - k) k d ∙ ap (λ (x : ℕ). drop x d) q

-- ---- a buffer that is filled from the front

pub filled-length : (s d : List ℕ) (i : ℕ) → i ≤ length s → i ≤ length d → length (filled s i d) ≡ length d
filled-length s d i h k = simp (length-append, length-take, length-drop) (omega arith)

-- One store more.
pub fill_one : (s d : List ℕ) (i v : ℕ) → i < length s → i < length d → v ≡ get_or s i 0 → set (filled s i d) i v ≡ filled s (i + 1) d
fill_one s d i v h k e = rw (e, add-one) (go s d i h k)
  where
    go : (s d : List ℕ) (i : ℕ) → i < length s → i < length d → set (filled s i d) i (get_or s i 0) ≡ filled s (suc i) d
    go [] d i h k = absurd (not-suc-le-zero h)
    go (x ∷ s) [] i h k = absurd (not-suc-le-zero k)
    go (x ∷ s) (y ∷ d) zero h k = refl
    go (x ∷ s) (y ∷ d) (suc i) h k = ap (λ (l : List ℕ). x ∷ l) (go s d i (le_of_suc-le-suc h) (le_of_suc-le-suc k))

-- What is not filled yet is as it was.
pub filled_at : (s d : List ℕ) (i : ℕ) → i ≤ length s → get_or (filled s i d) i 0 ≡ get_or d i 0
filled_at s d i h =
    let e : i ≡ length (take i s) + 0 = sym (add-zero (length (take i s)) ∙ length-take-le i s h) in
    ap (λ (k : ℕ). get_or (filled s i d) k 0) e ∙ get_or-append-add (take i s) (drop i d) 0 0 ∙ get_or-drop i d 0 0 ∙ ap (λ (k : ℕ). get_or d k 0) (add-zero i)

-- A buffer that is filled to its end.
pub filled_all : (s d : List ℕ) (i : ℕ) → length s ≤ i → length d ≤ i → filled s i d ≡ s
filled_all s d i h k = rw (take_all i s h, drop_all i d k, append-nil)

-- The w places from i on become p.
pub fill_part : (s d p : List ℕ) (i w : ℕ) → i + w ≤ length s → i + w ≤ length d → p ≡ take w (drop i s)
    → take i (filled s i d) ++ (p ++ drop (i + w - i) (drop i (filled s i d))) ≡ filled s (i + w) d
fill_part s d p i w k l q =
    let n : length (take i s) ≡ i = length-take-le i s (omega arith) in
    let a : take i (filled s i d) ≡ take i s = take_at (take i s) (drop i d) i n in
    let b : drop i (filled s i d) ≡ drop i d = drop_at (take i s) (drop i d) i n in
    let e : i + w - i ≡ w = omega arith in
    let f : take i s ++ p ≡ take (i + w) s = ap (λ (l : List ℕ). take i s ++ l) q ∙ sym (take-add i w s) in
    rw (a, b, e, drop-drop, ← append_assoc, f)

-- The first n places of a buffer d were lent, and hold p now.
module _ (p d : List ℕ) (n : ℕ) where
  -- what was written is s
  pub front_filled : (s : List ℕ) → length p ≡ length (take n d) → p ≡ s → p ++ drop n d ≡ filled s n d
  front_filled s l e =
      let h : length p ≤ n = omega (arith, length-take n d) in
      ap (λ (x : List ℕ). x ++ drop n d) (sym (take_all n p h) ∙ ap (take n) e)

  -- nothing was written
  pub front_kept : p ≡ take n d → p ++ drop n d ≡ d
  front_kept e = ap (λ (x : List ℕ). x ++ drop n d) e ∙ take-append-drop n d

-- The part from a place to the end.
pub part-rest : (l : List ℕ) (n a : ℕ) → length l ≡ n → take (n - a) (drop a l) ≡ drop a l
part-rest l n a h = take_all (n - a) (drop a l) (rw length-drop (omega arith))

-- What is written over the whole of a buffer.
pub placed_all : (s d : List ℕ) → length d ≡ length s → placed s 0 d ≡ s
placed_all s d h = ap (λ (l : List ℕ). s ++ l) (drop_all (0 + length s) d (omega arith)) ∙ append-nil s

-- The front of a buffer became s.
pub at_front : (s d : List ℕ) (n : ℕ) → length s ≡ n → s ++ drop n d ≡ placed s 0 d
at_front s d n h = let e : n ≡ 0 + length s = omega arith in ap (λ (k : ℕ). s ++ drop k d) e

-- v at the front of a buffer xs, and then c written to the part of it behind v.
pub placed-rest : (v c d xs : List ℕ) (n : ℕ) → xs ≡ placed v 0 d → length v ≡ n → take n xs ++ (c ++ drop (length xs - n) (drop n xs)) ≡ v ++ c
placed-rest v c d xs n e l =
    let p : take n xs ≡ v = ap (take n) e ∙ take_at v (drop (0 + length v) d) n l in
    let q : drop (length xs - n) (drop n xs) ≡ [] = drop_all (length xs - n) (drop n xs) (rw length-drop (omega arith)) in
    ap₂ (λ (x y : List ℕ). x ++ (c ++ y)) p q ∙ ap (λ (x : List ℕ). v ++ x) (append-nil c)

-- What stands behind v then is as it was.
pub rest_kept : (v d xs : List ℕ) (n : ℕ) → xs ≡ placed v 0 d → length v ≡ n → drop n xs ≡ drop n d
rest_kept v d xs n e l =
    let k : 0 + length v ≡ n = omega arith in
    ap (drop n) e ∙ drop_at v (drop (0 + length v) d) n l ∙ ap (λ (j : ℕ). drop j d) k

-- The n places of a buffer from `at` on were lent, and hold s now.
pub placed-part : (s d : List ℕ) (at n : ℕ) → length s ≡ n → take at d ++ (s ++ drop n (drop at d)) ≡ placed s at d
placed-part s d at n h =
    rw drop-drop (sym (append_assoc (take at d) s (drop (at + n) d)) ∙ ap (λ (k : ℕ). (take at d ++ s) ++ drop (at + k) d) (sym h))

-- y at the front of a buffer, and t written behind it to the buffer's end.
pub placed-behind : (y t d : List ℕ) (n : ℕ) → length y ≡ n → length d ≡ n + length t → placed t n (y ++ drop n d) ≡ y ++ t
placed-behind y t d n h k =
    let l : length (y ++ drop n d) ≤ n + length t = rw (length-append, length-drop) (omega arith) in
    rw (take_at y (drop n d) n h, drop_all (n + length t) (y ++ drop n d) l, append-nil)

-- What is written, and what stands before it.
pub take-placed : (s d : List ℕ) (at : ℕ) → at ≤ length d → take (at + length s) (placed s at d) ≡ take at d ++ s
take-placed s d at h = take_at (take at d ++ s) (drop (at + length s) d) (at + length s) (simp (length-append, length-take-le at d h))

-- A piece b behind a piece a.
pub placed-placed : (a b d : List ℕ) (at : ℕ) → at ≤ length d → placed b (at + length a) (placed a at d) ≡ placed (a ++ b) at d
placed-placed a b d at h =
    let l : length (take at d ++ a) ≡ at + length a = length-append (take at d) a ∙ ap (λ (n : ℕ). n + length a) (length-take-le at d h) in
    let t : take (at + length a) (placed a at d) ≡ take at d ++ a = take-placed a d at h in
    let r : drop (at + length a + length b) (placed a at d) ≡ drop (at + length a + length b) d = drop_front (take at d ++ a) d (at + length a) (at + length a + length b) l (omega arith) in
    let n : at + length a + length b ≡ at + length (a ++ b) = rw length-append (omega arith) in
    rw (t, r, n, append_assoc (take at d) a b)

-- The next part p of s is written after its first k elements.
pub placed-next : (s d p : List ℕ) (at k : ℕ) → at ≤ length d → k ≤ length s → p ≡ take (length p) (drop k s)
    → placed p (at + k) (paste d at s k) ≡ paste d at s (k + length p)
placed-next s d p at k h j e =
    let a : take (at + k) (paste d at s k) ≡ take at d ++ take k s = take-paste d at s k h j in
    let b : drop (at + k + length p) (paste d at s k) ≡ drop (at + k + length p) d =
    drop_front (take at d ++ take k s) d (at + k) (at + k + length p) (length_paste_head d at s k h j) (omega arith) in
    let f : take k s ++ p ≡ take (k + length p) s = ap (λ (l : List ℕ). take k s ++ l) e ∙ sym (take-add k (length p) s) in
    let g : at + k + length p ≡ at + (k + length p) = omega arith in
    rw (a, b, append_assoc (take at d) (take k s) p, f, g)

-- ---- a buffer whose rest, after its first m places, is lent, and gets g at its front

-- What went before was x.
pub placed_more : (x g d o part : List ℕ) (m : ℕ) → length x ≡ m → o ≡ x ++ drop m d → part ≡ placed g 0 (take (length o - m) (drop m o))
    → take m o ++ (part ++ drop (length o - m) (drop m o)) ≡ (x ++ g) ++ drop (m + length g) d
placed_more x g d o part m l e p =
    let a : take m o ≡ x = ap (take m) e ∙ take_at x (drop m d) m l in
    let b : drop m o ≡ drop m d = ap (drop m) e ∙ drop_at x (drop m d) m l in
    let c : take (length o - m) (drop m o) ≡ drop m o = part-rest o (length o) m refl in
    let f : drop (length o - m) (drop m o) ≡ [] = drop_all (length o - m) (drop m o) (rw length-drop (omega arith)) in
    let h : drop (0 + length g) (drop m d) ≡ drop (m + length g) d = rw drop-drop (ap (λ (k : ℕ). drop (m + k) d) (omega arith)) in
    let q : part ≡ g ++ drop (m + length g) d = p ∙ rw (c, b, h) in
    rw (a, f, append-nil, q) (sym (append_assoc x g (drop (m + length g) d)))

-- Then both are t, all that is written.
pub placed_end : (x g t d o part : List ℕ) (m : ℕ) → length x ≡ m → o ≡ x ++ drop m d → part ≡ placed g 0 (take (length o - m) (drop m o)) → x ++ g ≡ t
    → take m o ++ (part ++ drop (length o - m) (drop m o)) ≡ placed t 0 d
placed_end x g t d o part m l e p q =
    let k : m + length g ≡ 0 + length t = omega (arith, length-append x g, ap length q) in
    placed_more x g d o part m l e p ∙ rw (q, k)

-- ---- images

pub map-drop : (f : ℕ → ℕ) (n : ℕ) (l : List ℕ) → map f (drop n l) ≡ drop n (map f l)
map-drop f zero l = refl
map-drop f (suc n) [] = refl
map-drop f (suc n) (x ∷ l) = map-drop f n l

-- ---- zeros

pub take-replicate : (n m x : ℕ) → n ≤ m → take n (replicate m x) ≡ replicate n x
take-replicate zero m x h = refl
take-replicate (suc n) zero x h = absurd (not-suc-le-zero h)
take-replicate (suc n) (suc m) x h = ap (λ (l : List ℕ). x ∷ l) (take-replicate n m x (le_of_suc-le-suc h))

pub drop-replicate : (n m x : ℕ) → n ≤ m → drop n (replicate m x) ≡ replicate (m - n) x
drop-replicate zero m x h = let e : m ≡ m - 0 = omega arith in ap (λ (k : ℕ). replicate k x) e
drop-replicate (suc n) zero x h = absurd (not-suc-le-zero h)
drop-replicate (suc n) (suc m) x h =
    let e : m - n ≡ suc m - suc n = omega arith in
    drop-replicate n m x (le_of_suc-le-suc h) ∙ ap (λ (k : ℕ). replicate k x) e

-- ---- a list written out

abbrev pub tab : ℕ → (ℕ → ℕ) → List ℕ
tab zero f = []
tab (suc n) f = f 0 ∷ tab n (λ k. f (suc k))

pub take-tab : (n : ℕ) (l : List ℕ) → n ≤ length l → take n l ≡ tab n (λ k. get_or l k 0)
take-tab zero l h = refl
take-tab (suc n) [] h = absurd (not-suc-le-zero h)
take-tab (suc n) (x ∷ l) h = ap (λ (t : List ℕ). x ∷ t) (take-tab n l (le_of_suc-le-suc h))

pub list_tab : (n : ℕ) (l : List ℕ) → length l ≡ n → l ≡ tab n (λ k. get_or l k 0)
list_tab n l h = sym (take_all n l (omega arith)) ∙ take-tab n l (omega arith)
