-- Steps of loops over pieces of a list: piece i, and what remains behind it.
-- Assumes nothing.
use mathlib.Core.Path.{◌≡◌, sym, ap, ap₂, ◌∙◌}
use mathlib.Core.Bool.{false, ◌||◌}
use mathlib.Core.List.{List}
use Prim.Native.Nat.{ℕ, suc, ◌+◌, ◌-◌, ◌*◌, ◌≤◌, ◌<◌, min}
use native.Mathlib.Nat.{mul-zero, mul-suc, mul-sub, mul-le-mul_left}
use native.Mathlib.Numerals.{add-one}
use native.Mathlib.Omega.{arith}
use lib.ListN.{length, take, drop, length-take, length-drop}
use lib.Seq.{drop-drop}
use Rattle.octets.specs.Bytes.{same}
use Rattle.frame.specs.Layout.{among, repeats}
use Rattle.frame.proofs.Filling.{take_min}

-- the part from a on that code takes for w elements, fewer at the end
pub piece : (w a e : ℕ) (l : List ℕ) → a ≤ length l → e ≡ min (a + w) (length l)
    → (take (e - a) (drop a l) ≡ take w (drop a l)) × (length (take (e - a) (drop a l)) ≡ e - a)
piece w a e l h q =
    let d = length-drop a l in
    let r : e - a ≡ min w (length (drop a l)) = omega arith in
    (ap (λ (k : ℕ). take k (drop a l)) r ∙ take_min w (drop a l), length-take (e - a) (drop a l) ∙ omega arith)

-- piece 0 is in front, and of k pieces all are from 0 on
pub front : (w : ℕ) (l : List ℕ) → l ≡ drop (w * 0) l
front w l = ap (λ (k : ℕ). drop k l) (sym (mul-zero w))

pub all : (k : ℕ) → k ≡ k - 0
all k = omega arith

-- behind piece i stands piece i + 1
pub behind : (w i : ℕ) (l : List ℕ) → drop w (drop (w * i) l) ≡ drop (w * (i + 1)) l
behind w i l = drop-drop w (w * i) l ∙ ap (λ (k : ℕ). drop k l) (sym (mul-suc w i) ∙ ap (λ (k : ℕ). w * k) (sym (add-one i)))

-- of k pieces those from i on are piece i and those from i + 1 on
pub more : (k i : ℕ) → i < k → k - i ≡ suc (k - (i + 1))
more k i h = omega arith

-- and there are none from k on
pub none : (k i : ℕ) → k ≤ i → k - i ≡ 0
none k i h = omega arith

-- k pieces of w elements are within n: piece i ends within n, and those from i + 1 on are within what is left behind it
pub ends_within : (w k i n : ℕ) → i < k → w * k ≤ n → w * i + w ≤ n
ends_within w k i n h f = let m : i + 1 ≤ k = omega arith in omega (arith, mul-le-mul_left w m, f)

pub rest-within : (w k i n : ℕ) → i < k → w * k ≤ n → w * (k - (i + 1)) ≤ n - w * (i + 1)
rest-within w k i n h f = omega (arith, mul-sub w k (i + 1), f)

module _ (w k : ℕ) (l : List ℕ) where
  pub among_all : (x : List ℕ) → among w k x l ≡ among w (k - 0) x (drop (w * 0) l)
  among_all x = ap₂ (λ (m : ℕ) (s : List ℕ). among w m x s) (all k) (front w l)

  pub repeats_all : repeats w k l ≡ repeats w (k - 0) (drop (w * 0) l)
  repeats_all = ap₂ (repeats w) (all k) (front w l)

module _ (w k i : ℕ) (l : List ℕ) where
  pub among_next : (x : List ℕ) → i < k → among w (k - i) x (drop (w * i) l) ≡ (same x (take w (drop (w * i) l)) || among w (k - (i + 1)) x (drop (w * (i + 1)) l))
  unfolding among
  among_next x h = rw (more k i h, behind w i l)

  pub among_none : (x : List ℕ) → k ≤ i → among w (k - i) x (drop (w * i) l) ≡ false
  unfolding among
  among_none x h = rw (none k i h)

  pub repeats-next : i < k → repeats w (k - i) (drop (w * i) l) ≡ (among w (k - (i + 1)) (take w (drop (w * i) l)) (drop (w * (i + 1)) l) || repeats w (k - (i + 1)) (drop (w * (i + 1)) l))
  unfolding repeats
  repeats-next h = rw (more k i h, behind w i l)

  pub repeats_none : k ≤ i → repeats w (k - i) (drop (w * i) l) ≡ false
  unfolding repeats
  repeats_none h = rw (none k i h)
