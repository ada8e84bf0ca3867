-- A list with a part of it replaced: its length, its elements, its parts.
-- Assumes nothing.
use mathlib.Core.Path.{◌≡◌, sym, ap, ap₂, ◌∙◌}
use mathlib.Core.List.{List, ◌++◌, append_assoc}
use Prim.Native.Nat.{ℕ, ◌+◌, ◌-◌, ◌≤◌, ◌<◌}
use native.Mathlib.Omega.{arith}
use lib.ListN.{length, take, drop, get_or, length-append, length-take, length-drop, get_or-append}
use lib.Seq.{length-take-le, take_at, drop_at, take-append-le, drop-append-le, get_or-take, get_or-drop, get_or-append-add, drop-drop, take-add}
use Rattle.octets.specs.Bytes.{placed, Below}
use Rattle.octets.proofs.Lists.{drop_front}
use Rattle.octets.proofs.Bytes.{below_take, below_drop, below_append}

module _ (s d : List ℕ) (at : ℕ) where
  pub placed-length : at + length s ≤ length d → length (placed s at d) ≡ length d
  placed-length h = simp (length-append, length-take, length-drop) (omega arith)

  pub below_placed : {m : ℕ} → Below m s → Below m d → Below m (placed s at d)
  below_placed hs hd = below_append (below_append (below_take at hd) hs) (below_drop (at + length s) hd)

  front : at ≤ length d → length (take at d ++ s) ≡ at + length s
  front h = length-append (take at d) s ∙ ap (λ (n : ℕ). n + length s) (length-take-le at d h)

  -- an element ahead of the part, of the part, behind the part
  pub get_d_ahead : (k : ℕ) → k < at → k < length d → get_or (placed s at d) k 0 ≡ get_or d k 0
  get_d_ahead k h l =
      let t : length (take at d ++ s) ≡ length (take at d) + length s = length-append (take at d) s in
      let u = length-take at d in
      get_or-append (take at d ++ s) (drop (at + length s) d) 0 k (omega arith) ∙ get_or-append (take at d) s 0 k (omega arith) ∙ get_or-take at d k 0 h

  pub get_d_within : at ≤ length d → (k : ℕ) → k < length s → get_or (placed s at d) (at + k) 0 ≡ get_or s k 0
  get_d_within h k l =
      let t = front h in
      let u = length-take-le at d h in
      let e : at + k ≡ length (take at d) + k = omega arith in
      get_or-append (take at d ++ s) (drop (at + length s) d) 0 (at + k) (omega arith) ∙ ap (λ (n : ℕ). get_or (take at d ++ s) n 0) e ∙ get_or-append-add (take at d) s k 0

  pub get_d_behind : at ≤ length d → (k : ℕ) → at + length s ≤ k → get_or (placed s at d) k 0 ≡ get_or d k 0
  get_d_behind h k l =
      let t = front h in
      let e : k ≡ length (take at d ++ s) + (k - (at + length s)) = omega arith in
      let g : at + length s + (k - (at + length s)) ≡ k = omega arith in
      ap (λ (n : ℕ). get_or (placed s at d) n 0) e
      ∙ get_or-append-add (take at d ++ s) (drop (at + length s) d) (k - (at + length s)) 0
      ∙ get_or-drop (at + length s) d (k - (at + length s)) 0
      ∙ ap (λ (n : ℕ). get_or d n 0) g

  -- what stands ahead of the part, and behind it
  pub take_ahead : at ≤ length d → take at (placed s at d) ≡ take at d
  take_ahead h =
      let t = front h in
      take-append-le at (take at d ++ s) (drop (at + length s) d) (omega arith) ∙ take_at (take at d) s at (length-take-le at d h)

  pub drop-behind : at ≤ length d → (m : ℕ) → at + length s ≤ m → drop m (placed s at d) ≡ drop m d
  drop-behind h m l = drop_front (take at d ++ s) d (at + length s) m (front h) l

  -- the part, and what is behind it
  pub drop-part : at ≤ length d → drop at (placed s at d) ≡ s ++ drop (at + length s) d
  drop-part h =
      let t = front h in
      drop-append-le at (take at d ++ s) (drop (at + length s) d) (omega arith) ∙ ap (λ (x : List ℕ). x ++ drop (at + length s) d) (drop_at (take at d) s at (length-take-le at d h))

  -- the part lies in the first of two lists
  pub placed-append : (r : List ℕ) → at + length s ≤ length d → placed s at (d ++ r) ≡ placed s at d ++ r
  placed-append r h =
      ap₂ (λ (x y : List ℕ). x ++ s ++ y) (take-append-le at d r (omega arith)) (drop-append-le (at + length s) d r h)
      ∙ sym (append_assoc (take at d ++ s) (drop (at + length s) d) r)

-- the first n elements are left out
pub drop-placed : (s d : List ℕ) (n at : ℕ) → n + at ≤ length d → drop n (placed s (n + at) d) ≡ placed s at (drop n d)
drop-placed s d n at h =
    let t : length (take (n + at) d ++ s) ≡ n + at + length s = length-append (take (n + at) d) s ∙ ap (λ (m : ℕ). m + length s) (length-take-le (n + at) d h) in
    let u = length-take-le (n + at) d h in
    let e : n + at + length s ≡ n + (at + length s) = omega arith in
    let front : drop n (take (n + at) d) ≡ take at (drop n d) = ap (drop n) (take-add n at d) ∙ drop_at (take n d) (take at (drop n d)) n (length-take-le n d (omega (arith, h))) in
    drop-append-le n (take (n + at) d ++ s) (drop (n + at + length s) d) (omega arith)
    ∙ ap₂ (λ (x y : List ℕ). x ++ y) (drop-append-le n (take (n + at) d) s (omega (arith, u)) ∙ ap (λ (x : List ℕ). x ++ s) front)
    (ap (λ (m : ℕ). drop m d) e ∙ sym (drop-drop (at + length s) n d))
