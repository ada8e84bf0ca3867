-- What a call answers: a list of rows, of which the first that applies is given; and rules, which say in words what the rows ask for.
-- Assumes nothing.
use Rattle.std.specs.Prelude.{◌≡◌, ◌↔◌, Bool, true, false, not, ◌&&◌, cond, List, [], ◌∷◌, ℕ, zero, suc, ◌<◌, length, eqb, ltb}

-- What a call answers: done, with the lengths written and what else it returns; refused by a row; refused by a row that also returns a number.
pub data Outcome : Type 0 where
  done : List ℕ → Outcome
  refused : ℕ → Outcome
  refused_at : ℕ → ℕ → Outcome

-- A row: the test that says where it applies, and what it answers.
abbrev pub Row : Type 0
Row = Bool × Outcome

-- The answer: that of the first row that applies, and `last` where none does.
unfoldable pub answer : List Row → Outcome → Outcome
answer [] last = last
answer (r ∷ rows) last = cond r.0 r.1 (answer rows last)

-- The row number of an outcome, 0 for a success.
abbrev pub number : Outcome → ℕ
number (done lengths) = 0
number (refused row) = row
number (refused_at row at) = row

-- What a call with one buffer ends in: its answer, and what the buffer holds afterwards.
pub record End : Type 0 where
  pub outcome : Outcome
  pub buffer : List ℕ

-- A success leaves `new`, and a refusal leaves the buffer as it was.
abbrev pub leaves : Outcome → List ℕ → List ℕ → List ℕ
leaves (done lengths) new old = new
leaves (refused row) new old = old
leaves (refused_at row at) new old = old

-- The answer o, with b in the buffer.
abbrev pub ended : Outcome → List ℕ → End
ended o b = record { outcome = o; buffer = b }

-- What a call ends in that answers o and leaves `new` on success, where the buffer held `old`.
abbrev pub ending : Outcome → List ℕ → List ℕ → End
ending o new old = ended o (leaves o new old)

-- A call succeeded.
abbrev pub Succeeded : End → Type 0
Succeeded e = (lengths : List ℕ) × (e.outcome ≡ done lengths)

-- A rule: what a row asks for, in words, and what is answered where that is not met.
abbrev pub Rule : Type 1
Rule = Type 0 × Outcome

-- A call goes by rules, exactly. `given o` says that it answers o and changes nothing, `success` that it succeeds, and `met` is what the
-- rules before these ask for. So a rule's answer is given exactly when what the rules before it ask for is met and what it asks for is not;
-- and the call succeeds exactly when all is met.
abbrev pub Exactly : (Outcome → Type 0) → Type 0 → Type 0 → List Rule → Type 0
Exactly given success met [] = success ↔ met
Exactly given success met (r ∷ rules) = (given r.1 ↔ (met × (r.0 → ⊥))) × Exactly given success (met × r.0) rules

-- A call with one buffer goes by rules: it gives a rule's answer and leaves the buffer as it was, or is done, returns l and leaves `new` in the buffer.
abbrev pub EndsBy : List Rule → List ℕ → List ℕ → List ℕ → End → Type 0
EndsBy rules l new old e = Exactly (λ o. e ≡ ended o old) (e ≡ ended (done l) new) (Unit {0}) rules

-- A call without a buffer goes by rules: it gives a rule's answer, or is done and returns l.
abbrev pub AnswersBy : List Rule → List ℕ → Outcome → Type 0
AnswersBy rules l a = Exactly (λ o. a ≡ o) (a ≡ done l) (Unit {0}) rules

-- The number of each rule is above that of the one before it, and that of the first above n.
abbrev pub above : ℕ → List Rule → Bool
above n [] = true
above n (r ∷ rules) = ltb n (number r.1) && above (number r.1) rules

-- The numbers of the rules ascend: where a call goes by them, the lowest of the rows that apply is given.
abbrev pub Ascending : List Rule → Type 0
Ascending rules = above 0 rules ≡ true

-- The numbers of the rules, in the order in which they are tried.
abbrev pub numbers : List Rule → List ℕ
numbers [] = []
numbers (r ∷ rules) = number r.1 ∷ numbers rules

-- ---- for proofs: a call by its own list of rows

-- The row at place k of the list, from 0, applies, and none before it does.
abbrev pub First : List Row → ℕ → Type 0
First [] k = ⊥
First (r ∷ rows) zero = r.0 ≡ true
First (r ∷ rows) (suc k) = (r.0 ≡ false) × First rows k

-- No row applies.
abbrev pub NoRow : List Row → Type 0
NoRow [] = Unit {0}
NoRow (r ∷ rows) = (r.0 ≡ false) × NoRow rows

-- What the row at place k answers; `last` past the end.
abbrev pub outcome_at : List Row → Outcome → ℕ → Outcome
outcome_at [] last k = last
outcome_at (r ∷ rows) last zero = r.1
outcome_at (r ∷ rows) last (suc k) = outcome_at rows last k

-- No row has the number m.
abbrev pub without : ℕ → List Row → Bool
without m [] = true
without m (r ∷ rows) = not (eqb (number r.1) m) && without m rows

-- No two rows have the same number.
abbrev pub distinct : List Row → Bool
distinct [] = true
distinct (r ∷ rows) = without (number r.1) rows && distinct rows

-- No two rows have the same number, and none the number 0.
abbrev pub numbered : List Row → Bool
numbered rows = without 0 rows && distinct rows

-- The answer is that of the row at place k exactly when that row applies and none before it does; it is a success exactly when no row applies.
abbrev pub AnswerExactly : List Row → Type 0
AnswerExactly rows =
    (l : List ℕ)
    → ((k : ℕ) → k < length rows → (answer rows (done l) ≡ outcome_at rows (done l) k) ↔ First rows k)
    × ((answer rows (done l) ≡ done l) ↔ NoRow rows)

-- A call's end goes by its rows: it has the answer of the row at place k, and the buffer as it was, exactly when that row
-- applies and none before it does; and it is done, returns l and leaves `new` in the buffer, exactly when no row applies.
abbrev pub EndsExactly : List Row → List ℕ → List ℕ → List ℕ → End → Type 0
EndsExactly rows l new old e =
    ((k : ℕ) → k < length rows → (e ≡ ended (outcome_at rows (done l) k) old) ↔ First rows k)
    × ((e ≡ ended (done l) new) ↔ NoRow rows)
