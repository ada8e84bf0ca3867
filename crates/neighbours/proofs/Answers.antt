-- The answer of the read of two neighbouring ranges, by the answers of the two.
-- Assumes nothing.
use mathlib.Core.Path.{◌≡◌, refl, sym, ap, ap₂, ◌∙◌, subst}
use mathlib.Core.Bool.{Bool, true, false, not, cond}
use mathlib.Core.List.{List, [], ◌∷◌}
use Prim.Native.Nat.{ℕ, ◌+◌, ◌-◌, ◌≤◌, ◌<◌}
use lib.ListN.{length}
use lib.Dec.{ltb}
use borrow.Author.Tests.{ltb-true, ltb-false, le-ltb, lt-ltb}
use Rattle.octets.specs.Rows.{Outcome, done, refused, refused_at, answer}
use Rattle.frame.specs.Layout.{clear_length, header_at, Inside}
use Rattle.frame.specs.Frame.{Codec, bad_chunk, range_rows, read_range}
use Rattle.neighbours.proofs.Chunks.{inside-first, inside_second, behind, bad_first, bad_second, bad_none}

-- The first refusal of two answers, and else a success with n bytes.
abbrev pub both : Outcome → Outcome → ℕ → Outcome
both (done l) (done m) n = done (n ∷ [])
both (done l) (refused row) n = refused row
both (done l) (refused_at row i) n = refused_at row i
both (refused row) o n = refused row
both (refused_at row i) o n = refused_at row i

-- ---- what it tells

-- an answer that is no success
abbrev pub Refusal : Outcome → Type 0
Refusal (done l) = ⊥
Refusal (refused row) = Unit {0}
Refusal (refused_at row i) = Unit {0}

pub no_success : (o : Outcome) → Refusal o → (l : List ℕ) → o ≡ done l → ⊥
no_success o t l e = subst Refusal e t

-- a success is a success of both
pub both_done : (x y : Outcome) (n : ℕ) (l : List ℕ) → both x y n ≡ done l → ((m : List ℕ) × (x ≡ done m)) × ((m : List ℕ) × (y ≡ done m))
both_done (done l) (done m) n k e = ((l, refl), (m, refl))
both_done (done l) (refused row) n k e = absurd (no_success (refused row) tt k e)
both_done (done l) (refused_at row i) n k e = absurd (no_success (refused_at row i) tt k e)
both_done (refused row) y n k e = absurd (no_success (refused row) tt k e)
both_done (refused_at row i) y n k e = absurd (no_success (refused_at row i) tt k e)

pub refused-first : (x y : Outcome) (n : ℕ) → ((m : List ℕ) × (x ≡ done m) → ⊥) → both x y n ≡ x
refused-first (done l) y n r = absurd (r (l, refl))
refused-first (refused row) y n r = refl
refused-first (refused_at row i) y n r = refl

pub refused_second : (x y : Outcome) (n : ℕ) → (m : List ℕ) × (x ≡ done m) → ((m : List ℕ) × (y ≡ done m) → ⊥) → both x y n ≡ y
refused_second (done l) (done m) n s r = absurd (r (m, refl))
refused_second (done l) (refused row) n s r = refl
refused_second (done l) (refused_at row i) n s r = refl
refused_second (refused row) y n s r = absurd (no_success (refused row) tt s.0 s.1)
refused_second (refused_at row i) y n s r = absurd (no_success (refused_at row i) tt s.0 s.1)

-- ---- where the range of both is inside, and there is room

-- the answer by the rows that are left
abbrev left : Bool → Bool → ℕ → ℕ → ℕ → Outcome
left keyed headed bad end n = cond (not keyed) (refused 1) (cond (not headed) (refused 9) (cond (ltb bad end) (refused_at 10 bad) (done (n ∷ []))))

module _ (C : Codec) (f : List ℕ) where
  open C use {sizes as z, keys_right, header_good}

  answers : (from count : ℕ) (out : List ℕ) → Inside z (length f) from count → count ≤ length out
      → (read_range C f from count out).outcome ≡ left keys_right (header_good (header_at z f)) (bad_chunk C f from count) (behind from count) count
  unfolding read_range range_rows answer
  answers from count out s r = rw (s.right, le-ltb (clear_length z (length f)) (from + count) s.within, le-ltb (length out) count r)

  module _ (a b c : ℕ) (h : a ≤ b) (k : b ≤ c) (s : Inside z (length f) a (c - a)) where
    abbrev tags : ℕ → ℕ → Outcome
    tags from count = left true true (bad_chunk C f from count) (behind from count) count

    by_tags : tags a (c - a) ≡ both (tags a (b - a)) (tags b (c - b)) (c - a)
    by_tags = go (ltb (bad_chunk C f a (b - a)) (behind a (b - a))) (ltb (bad_chunk C f b (c - b)) (behind b (c - b))) refl refl
      where
        -- one of the two has a bad chunk, which is then the lowest of both
        found : (i : ℕ) → (bad_chunk C f a (c - a) ≡ i) × (bad_chunk C f a (c - a) < behind a (c - a)) → tags a (c - a) ≡ refused_at 10 i
        found i p = rw (lt-ltb (bad_chunk C f a (c - a)) (behind a (c - a)) p.1) (ap (refused_at 10) p.0)

        go : (t u : Bool) → ltb (bad_chunk C f a (b - a)) (behind a (b - a)) ≡ t → ltb (bad_chunk C f b (c - b)) (behind b (c - b)) ≡ u
            → tags a (c - a) ≡ both (cond t (refused_at 10 (bad_chunk C f a (b - a))) (done ((b - a) ∷ []))) (cond u (refused_at 10 (bad_chunk C f b (c - b))) (done ((c - b) ∷ []))) (c - a)
        go true u e g = found (bad_chunk C f a (b - a)) (bad_first C f a b c h k s (ltb-true (bad_chunk C f a (b - a)) (behind a (b - a)) e))
        go false true e g =
            found (bad_chunk C f b (c - b))
            (bad_second C f a b c h k s (ltb-false (bad_chunk C f a (b - a)) (behind a (b - a)) e) (ltb-true (bad_chunk C f b (c - b)) (behind b (c - b)) g))
        go false false e g =
            let n = bad_none C f a b c h k s (ltb-false (bad_chunk C f a (b - a)) (behind a (b - a)) e) (ltb-false (bad_chunk C f b (c - b)) (behind b (c - b)) g) in
            rw (le-ltb (bad_chunk C f a (c - a)) (behind a (c - a)) n)

    by_rows : (keyed headed : Bool)
        → left keyed headed (bad_chunk C f a (c - a)) (behind a (c - a)) (c - a)
        ≡ both (left keyed headed (bad_chunk C f a (b - a)) (behind a (b - a)) (b - a)) (left keyed headed (bad_chunk C f b (c - b)) (behind b (c - b)) (c - b)) (c - a)
    by_rows false headed = refl
    by_rows true false = refl
    by_rows true true = by_tags

    pub answered : (out₁ out₂ out₃ : List ℕ) → b - a ≤ length out₁ → c - b ≤ length out₂ → c - a ≤ length out₃
        → (read_range C f a (c - a) out₃).outcome ≡ both (read_range C f a (b - a) out₁).outcome (read_range C f b (c - b) out₂).outcome (c - a)
    answered out₁ out₂ out₃ r₁ r₂ r₃ =
        answers a (c - a) out₃ s r₃
        ∙ by_rows keys_right (header_good (header_at z f))
        ∙ sym
        (ap₂ (λ (x y : Outcome). both x y (c - a)) (answers a (b - a) out₁ (inside-first z (length f) a b c h k s) r₁)
        (answers b (c - b) out₂ (inside_second z (length f) a b c h k s) r₂))
