-- The making of a reader goes by its rules, and answers as a range read of no bytes does.
-- Assumes nothing.
use mathlib.Core.Path.{◌≡◌, refl, ap}
use mathlib.Core.Bool.{Bool, true, false, not, cond}
use mathlib.Core.Logic.{◌↔◌}
use mathlib.Core.List.{List, [], ◌∷◌}
use Prim.Native.Nat.{ℕ}
use native.Mathlib.Omega.{arith}
use borrow.Author.Tests.{le-ltb}
use lib.ListN.{length, take}
use Rattle.octets.specs.Rows.{Outcome, done, refused, refused_at, answer, number, AnswersBy}
use Rattle.octets.proofs.Tests.{self, not_fails}
use Rattle.octets.proofs.Rows.{Matches, answers_by, done_none, met_exactly}
use Rattle.frame.specs.Layout.{covering, clear_length, right_length, header_at, lowest_bad}
use Rattle.frame.specs.Frame.{Codec, head_in, bad_chunk, range_rows, read_range}
use Rattle.frame.specs.Rules.{FileLength}
use Rattle.frame.proofs.Rules.{length_exactly}
use Rattle.reader_spec.specs.Reader.{no_bytes, Making, made, making_by, reader_of, making_rows, open_reader}
use Rattle.reader_spec.specs.Rules.{making_rules}
use Rattle.reader_spec.specs.Statements.{MakingExactly, MakesAsReads}

-- three rows, and a success that returns something or something else
same_number : (a b c : Bool) (l m : List ℕ)
    → number (cond a (refused 1) (cond b (refused 4) (cond c (refused 9) (done l)))) ≡ number (cond a (refused 1) (cond b (refused 4) (cond c (refused 9) (done m))))
same_number true b c l m = refl
same_number false true c l m = refl
same_number false false true l m = refl
same_number false false false l m = refl

module _ (C : Codec) where
  open C use {sizes as z, keys_right, header_good}

  pub makes_as_reads : MakesAsReads C
  unfolding open_reader making_rows read_range range_rows bad_chunk covering lowest_bad answer
  makes_as_reads f out =
      rw (le-ltb (clear_length z (length f)) 0 (omega arith), le-ltb (length out) 0 (omega arith))
      (same_number (not keys_right) (not (right_length z (length f))) (not (header_good (header_at z f))) (clear_length z (length f) ∷ []) (0 ∷ []))

  -- the answer, by the rows
  abbrev pub answered : List ℕ → Outcome
  answered f = answer (making_rows C f) (done (clear_length z (length f) ∷ []))

  pub made_by : (f : List ℕ) (o : Outcome) → answered f ≡ o → open_reader C f ≡ making_by o (reader_of C f)
  unfolding open_reader
  made_by f o e = ap (λ (x : Outcome). making_by x (reader_of C f)) e

  -- a row comes with the reader of no bytes
  gives : (f : List ℕ) (row : ℕ) {A : Type 0} → (answered f ≡ refused row) ↔ A → (open_reader C f ≡ made (refused row) no_bytes) ↔ A
  unfolding open_reader
  gives f row t = (λ e. t.0 (ap (λ (m : Making). m.outcome) e), λ a. made_by f (refused row) (t.1 a))

  succeeds : (f : List ℕ) {A : Type 0} → (answered f ≡ done (clear_length z (length f) ∷ [])) ↔ A
      → (open_reader C f ≡ made (done (clear_length z (length f) ∷ [])) (reader_of C f)) ↔ A
  unfolding open_reader
  succeeds f t = (λ e. t.0 (ap (λ (m : Making). m.outcome) e), λ a. made_by f (done (clear_length z (length f) ∷ [])) (t.1 a))

  module _ (Keys : Type 0) (keys : (keys_right ≡ true) ↔ Keys) where
    making_matches : (f : List ℕ) → Matches (making_rows C f) (making_rules C Keys f)
    unfolding making_rows header_at
    making_matches f = (refl, not_fails keys, (refl, not_fails (length_exactly z (length f)), (refl, not_fails (self (header_good (header_at z f))), tt)))

    pub by_rules : (f : List ℕ) → AnswersBy (making_rules C Keys f) (clear_length z (length f) ∷ []) (answered f)
    unfolding making_rows
    by_rules f = answers_by (making_rows C f) (making_rules C Keys f) (making_matches f) refl (clear_length z (length f) ∷ [])

    pub making_exactly : MakingExactly C Keys
    unfolding reader_of head_in header_at
    making_exactly f =
        let t = by_rules f in
        (gives f 1 t.0, (gives f 4 t.1.0, (gives f 9 t.1.1.0, succeeds f t.1.1.1)))

    -- what a reader can be made for
    abbrev pub Passes : List ℕ → Type 0
    Passes f = Keys × FileLength z (length f) × (header_good (take z.header f) ≡ true)

    pub opened_by : (f : List ℕ) → Passes f → open_reader C f ≡ made (done (clear_length z (length f) ∷ [])) (reader_of C f)
    opened_by f o = (succeeds f (by_rules f).1.1.1).1 (((tt, o.0), o.1), o.2)

    pub passes : (f l : List ℕ) → answered f ≡ done l → Passes f
    unfolding making_rows
    passes f l e =
        let m = (met_exactly (making_rows C f) (making_rules C Keys f) (making_matches f)).0 (done_none (making_rows C f) (clear_length z (length f) ∷ []) l refl e) in
        (m.0, m.1.0, m.1.1.0)

    pub refused_by : (f : List ℕ) → (Passes f → ⊥) → (open_reader C f).reader ≡ no_bytes
    refused_by f n = go (answered f) refl
      where
        go : (o : Outcome) → answered f ≡ o → (open_reader C f).reader ≡ no_bytes
        go (done l) e = absurd (n (passes f l e))
        go (refused row) e = ap (λ (m : Making). m.reader) (made_by f (refused row) e)
        go (refused_at row i) e = ap (λ (m : Making). m.reader) (made_by f (refused_at row i) e)
