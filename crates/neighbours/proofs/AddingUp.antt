-- Neighbouring range reads add up, and so do reads through a reader, which are range reads.
-- Assumes nothing.
use mathlib.Core.Path.{◌≡◌, refl, sym, ap, ap₂, ◌∙◌, subst}
use mathlib.Core.List.{List, [], ◌∷◌, ◌++◌}
use Prim.Native.Nat.{ℕ, ◌-◌, ◌≤◌}
use native.Mathlib.Omega.{arith}
use lib.ListN.{length, take, drop, length-drop}
use Rattle.octets.specs.Bytes.{filled}
use Rattle.octets.specs.Rows.{Outcome, done, refused, refused_at, End, ended, Succeeded}
use Rattle.frame.specs.Layout.{clear_length, Inside}
use Rattle.frame.specs.Frame.{Codec, head_in, clear_of, read_range}
use Rattle.frame.specs.Laws.{PlainSize}
use Rattle.frame.proofs.Lengths.{file-clear}
use Rattle.frame.proofs.Pieces.{length-clear}
use Rattle.frame.proofs.Success.{succeeded, succeeds}
use Rattle.reader_spec.specs.Reader.{read_through}
use Rattle.reader_spec.proofs.Through.{kept, read_kept_lem}
use Rattle.neighbours.specs.Neighbours.{Read, AddUp, RefusedAlike, FillUp, NeighboursAddUp}
use Rattle.neighbours.specs.Statements.{RangesAddUp, ThroughAddUp}
use Rattle.neighbours.proofs.Chunks.{inside_both}
use Rattle.neighbours.proofs.Answers.{both, no_success, both_done, refused-first, refused_second, answered}
use Rattle.neighbours.proofs.Joined.{spared, room-first, joined, paged}

-- ---- range reads

module _ (C : Codec) (sized : PlainSize C) (f : List ℕ) (a b c : ℕ) (h : a ≤ b) (k : b ≤ c) where
  open C use {sizes as z, plain}

  abbrev read : Read
  read = read_range C f

  -- what a read that succeeds ends in
  ends : (from count : ℕ) (out : List ℕ) → Succeeded (read from count out) → read from count out ≡ ended (done (count ∷ [])) (filled (drop from (clear_of C f)) count out)
  ends from count out s = succeeds C f from count out (succeeded C f from count out s)

  long : Inside z (length f) a (c - a) → c ≤ length (clear_of C f)
  unfolding clear_of
  long s =
      let l = length-clear z (plain (head_in C f)) (sized (head_in C f)) f (clear_length z (length f)) (file-clear z (length f) s.right) in
      let w = s.within in
      omega (arith, l, w, h, k)

  inside : (out : List ℕ) → Succeeded (read a (c - a) out) → Inside z (length f) a (c - a)
  inside out w = (succeeded C f a (c - a) out w).inside

  module _ (out₁ out₂ out₃ : List ℕ) (r₁ : b - a ≤ length out₁) (r₂ : c - b ≤ length out₂) (r₃ : c - a ≤ length out₃) where
    pair_of : Succeeded (read a (c - a) out₃) → Succeeded (read a (b - a) out₁) × Succeeded (read b (c - b) out₂)
    pair_of w =
        let e = answered C f a b c h k (inside out₃ w) out₁ out₂ out₃ r₁ r₂ r₃ in
        both_done (read a (b - a) out₁).outcome (read b (c - b) out₂).outcome (c - a) w.0 (sym e ∙ w.1)

    whole_of : Succeeded (read a (b - a) out₁) → Succeeded (read b (c - b) out₂) → Succeeded (read a (c - a) out₃)
    whole_of x y =
        let s = inside_both z (length f) a b c h k (succeeded C f b (c - b) out₂ y).inside in
        ((c - a) ∷ [], answered C f a b c h k s out₁ out₂ out₃ r₁ r₂ r₃ ∙ ap₂ (λ o q. both o q (c - a)) x.1 y.1)

    bytes : Succeeded (read a (c - a) out₃) → take (b - a) (read a (b - a) out₁).buffer ++ take (c - b) (read b (c - b) out₂).buffer ≡ take (c - a) (read a (c - a) out₃).buffer
    bytes w =
        let p = pair_of w in
        ap₂ (λ (x y : End). take (b - a) x.buffer ++ take (c - b) y.buffer) (ends a (b - a) out₁ p.0) (ends b (c - b) out₂ p.1)
        ∙ joined (clear_of C f) a b c h k (long (inside out₃ w)) out₁ out₂ out₃
        ∙ sym (ap (λ (e : End). take (c - a) e.buffer) (ends a (c - a) out₃ w))

  add_up : AddUp (read_range C f) a b c
  add_up out₁ out₂ out₃ r₁ r₂ r₃ = ((λ p. whole_of out₁ out₂ out₃ r₁ r₂ r₃ p.0 p.1, pair_of out₁ out₂ out₃ r₁ r₂ r₃), bytes out₁ out₂ out₃ r₁ r₂ r₃)

  refused_alike : Inside z (length f) a (c - a) → RefusedAlike (read_range C f) a b c
  refused_alike s out₁ out₂ out₃ r₁ r₂ r₃ =
      let e = answered C f a b c h k s out₁ out₂ out₃ r₁ r₂ r₃ in
      let x = (read a (b - a) out₁).outcome in
      let y = (read b (c - b) out₂).outcome in
      (λ n. e ∙ refused-first x y (c - a) n, λ d n. e ∙ refused_second x y (c - a) d n)

  fill_up : FillUp (read_range C f) a b c
  fill_up out w =
      let t = long (inside out w) in
      let r = (succeeded C f a (c - a) out w).roomy in
      let begun = filled (drop a (clear_of C f)) (b - a) out in
      let room : c - b ≤ length (drop (b - a) begun) = rw (spared (drop a (clear_of C f)) out (b - a) (room-first (clear_of C f) a b c h k t), length-drop) (omega arith) in
      let first = ends a (b - a) out (pair_of out out out (omega arith) (omega arith) r w).0 in
      let second = ends b (c - b) (drop (b - a) begun) (pair_of out (drop (b - a) begun) out (omega arith) room r w).1 in
      ap (λ (x : End). take (b - a) x.buffer ++ (read b (c - b) (drop (b - a) x.buffer)).buffer) first
      ∙ ap (λ (x : End). take (b - a) begun ++ x.buffer) second
      ∙ paged (clear_of C f) a b c h k t out r
      ∙ sym (ap (λ (x : End). x.buffer) (ends a (c - a) out w))

module _ (C : Codec) (sized : PlainSize C) where
  pub ranges_add_up : RangesAddUp C
  ranges_add_up f a b c h k = (add_up C sized f a b c h k, fill_up C sized f a b c h k, refused_alike C sized f a b c h k)

-- ---- other ways to read

-- ways that end the same
pub alike : (Within : ℕ → ℕ → Type 0) (one other : Read) → ((from count : ℕ) (out : List ℕ) → one from count out ≡ other from count out) → NeighboursAddUp other Within → NeighboursAddUp one Within
alike Within one other e n =
    let p : other ≡ one = λ i from count out. sym (e from count out) i in
    subst (λ (x : Read). NeighboursAddUp x Within) p n

pub through_add_up : (C : Codec) → PlainSize C → ThroughAddUp C
through_add_up C sized r = alike (Inside C.sizes (length r.file)) (read_through C r) (read_range (kept C r) r.file) (read_kept_lem C r) (ranges_add_up (kept C r) sized r.file)

-- a way that refuses every read by one row
module _ (row : ℕ) where
  never : (out : List ℕ) → Succeeded (ended (refused row) out) → ⊥
  never out s = no_success (refused row) tt s.0 s.1

  pub refusing : (Within : ℕ → ℕ → Type 0) → NeighboursAddUp (λ from count out. ended (refused row) out) Within
  refusing Within a b c h k = (
    λ out₁ out₂ out₃ r₁ r₂ r₃. ((λ p. absurd (never out₁ p.0), λ w. absurd (never out₃ w)), λ w. absurd (never out₃ w)),
    λ out w. absurd (never out w),
    λ s out₁ out₂ out₃ r₁ r₂ r₃. (λ n. refl, λ d n. absurd (never out₁ d)),
  )

-- A way that goes by the answer of a making: another way where that is a success, and else row 4 for every read.
pub by_making : (Within : ℕ → ℕ → Type 0) (read other : Read) (made : Outcome)
    → ((l : List ℕ) × (made ≡ done l) → (from count : ℕ) (out : List ℕ) → read from count out ≡ other from count out)
    → (((l : List ℕ) × (made ≡ done l) → ⊥) → (from count : ℕ) (out : List ℕ) → read from count out ≡ ended (refused 4) out)
    → NeighboursAddUp other Within → NeighboursAddUp read Within
by_making Within read other (done l) s n t = alike Within read other (s (l, refl)) t
by_making Within read other (refused row) s n t = alike Within read (λ from count out. ended (refused 4) out) (n (λ x. no_success (refused row) tt x.0 x.1)) (refusing 4 Within)
by_making Within read other (refused_at row i) s n t = alike Within read (λ from count out. ended (refused 4) out) (n (λ x. no_success (refused_at row i) tt x.0 x.1)) (refusing 4 Within)
