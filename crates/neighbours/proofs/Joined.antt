-- The bytes of two neighbouring parts, read into buffers.
-- Assumes nothing.
use mathlib.Core.Path.{◌≡◌, sym, ap, ap₂, ◌∙◌}
use mathlib.Core.List.{List, ◌++◌}
use Prim.Native.Nat.{ℕ, ◌+◌, ◌-◌, ◌≤◌}
use native.Mathlib.Omega.{arith}
use lib.ListN.{length, take, drop, length-drop}
use lib.Seq.{length-take-le, take_at, take-add, drop-drop}
use Rattle.octets.specs.Bytes.{filled}
use Rattle.octets.proofs.Lists.{drop_front, fill_part}

-- what a read of n bytes left in its buffer, and what it left alone
got : (l out : List ℕ) (n : ℕ) → n ≤ length l → take n (filled l n out) ≡ take n l
got l out n h = take_at (take n l) (drop n out) n (length-take-le n l h)

pub spared : (l out : List ℕ) (n : ℕ) → n ≤ length l → drop n (filled l n out) ≡ drop n out
spared l out n h = drop_front (take n l) out n n (length-take-le n l h) (omega arith)

module _ (clear : List ℕ) (a b c : ℕ) (h : a ≤ b) (k : b ≤ c) (w : c ≤ length clear) where
  next : drop (b - a) (drop a clear) ≡ drop b clear
  next = let e : a + (b - a) ≡ b = omega arith in drop-drop (b - a) a clear ∙ ap (λ (n : ℕ). drop n clear) e

  -- the two parts, one after the other
  parts : take (b - a) (drop a clear) ++ take (c - b) (drop b clear) ≡ take (c - a) (drop a clear)
  parts =
      let e : (b - a) + (c - b) ≡ c - a = omega arith in
      ap (λ (x : List ℕ). take (b - a) (drop a clear) ++ take (c - b) x) (sym next)
      ∙ sym (take-add (b - a) (c - b) (drop a clear))
      ∙ ap (λ (n : ℕ). take n (drop a clear)) e

  pub room-first : b - a ≤ length (drop a clear)
  room-first = rw length-drop (omega arith)

  room_second : c - b ≤ length (drop b clear)
  room_second = rw length-drop (omega arith)

  room_both : c - a ≤ length (drop a clear)
  room_both = rw length-drop (omega arith)

  pub joined : (out₁ out₂ out₃ : List ℕ)
      → take (b - a) (filled (drop a clear) (b - a) out₁) ++ take (c - b) (filled (drop b clear) (c - b) out₂) ≡ take (c - a) (filled (drop a clear) (c - a) out₃)
  joined out₁ out₂ out₃ =
      ap₂ (λ (s t : List ℕ). s ++ t) (got (drop a clear) out₁ (b - a) room-first) (got (drop b clear) out₂ (c - b) room_second)
      ∙ parts
      ∙ sym (got (drop a clear) out₃ (c - a) room_both)

  -- into one buffer
  pub paged : (out : List ℕ) → c - a ≤ length out →
      let begun = filled (drop a clear) (b - a) out in
      take (b - a) begun ++ filled (drop b clear) (c - b) (drop (b - a) begun) ≡ filled (drop a clear) (c - a) out
  paged out r =
      let begun = filled (drop a clear) (b - a) out in
      let e : (b - a) + (c - b) ≡ c - a = omega arith in
      let n : (b - a) + (c - b) - (b - a) ≡ c - b = omega arith in
      ap (λ (k : ℕ). take (b - a) begun ++ (take (c - b) (drop b clear) ++ drop k (drop (b - a) begun))) (sym n)
      ∙ fill_part (drop a clear) out (take (c - b) (drop b clear)) (b - a) (c - b) (rw e room_both) (rw e r) (ap (take (c - b)) (sym next))
      ∙ ap (λ (k : ℕ). filled (drop a clear) k out) e
