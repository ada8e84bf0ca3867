-- Texts at the front of a buffer.
-- Assumes nothing.
use Prim.Native.Nat.{ℕ, ◌+◌}
use mathlib.Core.Path.{◌≡◌, sym, ap, ◌∙◌}
use mathlib.Core.List.{List, ◌++◌}
use native.Mathlib.Omega.{arith}
use lib.ListN.{length, take, drop, length-append}
use lib.Seq.{take_at, take_all}
use Rattle.octets.specs.Bytes.{placed, filled}
use Rattle.octets.proofs.Lists.{at_front, drop_front}

module _ (s d : List ℕ) (n : ℕ) (h : length s ≡ n) where
  -- The front is s.
  pub front : take n (placed s 0 d) ≡ s
  front = take_at s (drop (0 + length s) d) n h

  pub placed-filled : placed s 0 d ≡ filled s n d
  placed-filled = sym (at_front s d n h) ∙ ap (λ (l : List ℕ). l ++ drop n d) (sym (take_all n s (omega arith)))

-- After the text x comes the text g.
pub placed-after : (x g d : List ℕ) (m : ℕ) → length x ≡ m → placed g m (placed x 0 d) ≡ placed (x ++ g) 0 d
placed-after x g d m h =
    let a : take m (placed x 0 d) ≡ x = front x d m h in
    let b : drop (m + length g) (placed x 0 d) ≡ drop (m + length g) d = drop_front x d (0 + length x) (m + length g) (omega arith) (omega arith) in
    let e : m + length g ≡ 0 + length (x ++ g) = omega (arith, length-append x g) in
    rw (a, b, e)
