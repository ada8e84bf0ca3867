-- The answer is that of the first row that applies; so the end of a call goes by the rules that its rows match.
-- Assumes nothing.
use mathlib.Core.Path.{◌≡◌, refl, sym, ap, ◌∙◌}
use mathlib.Core.Bool.{Bool, true, false, not, cond}
use mathlib.Core.Logic.{◌↔◌, ◌⊎◌, inl, inr, ⊎_elim}
use mathlib.Core.List.{List, [], ◌∷◌}
use Prim.Native.Nat.{ℕ, zero, suc, ◌<◌}
use native.Mathlib.Nat.{not-suc-le-zero, le_of_suc-le-suc}
use lib.ListN.{length}
use lib.Dec.{eqb}
use borrow.Author.Tests.{eqb-false, not-true}
use Rattle.octets.specs.Rows.{AnswerExactly, EndsExactly, Outcome, done, refused, refused_at, Row, answer, First, NoRow, outcome_at, number, without, distinct, numbered, End, ended, ending, Succeeded, Rule, Exactly, EndsBy, AnswersBy}
use Rattle.octets.proofs.Equality.{and_true, true_false}

-- row k, the first that applies, gives the answer
pub first_answers : (rows : List Row) (last : Outcome) (k : ℕ) → First rows k → answer rows last ≡ outcome_at rows last k
unfolding answer
first_answers [] last k f = absurd f
first_answers (r ∷ rows) last zero f = rw f
first_answers (r ∷ rows) last (suc k) f = rw f.0 (first_answers rows last k f.1)

pub none_answers : (rows : List Row) (last : Outcome) → NoRow rows → answer rows last ≡ last
unfolding answer
none_answers [] last f = refl
none_answers (r ∷ rows) last f = rw f.0 (none_answers rows last f.1)

-- the number of an answer is none that the rows lack
lacks : (rows : List Row) (k m : ℕ) (last : Outcome) → k < length rows → without m rows ≡ true → number (outcome_at rows last k) ≡ m → ⊥
lacks [] k m last h w e = not-suc-le-zero h
lacks (r ∷ rows) zero m last h w e = eqb-false (number r.1) m (not-true (eqb (number r.1) m) (and_true (not (eqb (number r.1) m)) (without m rows) w).0) e
lacks (r ∷ rows) (suc k) m last h w e = lacks rows k m last (le_of_suc-le-suc h) (and_true (not (eqb (number r.1) m)) (without m rows) w).1 e

lacks-answer : (rows : List Row) (m : ℕ) (last : Outcome) → (number last ≡ m → ⊥) → without m rows ≡ true → number (answer rows last) ≡ m → ⊥
unfolding answer
lacks-answer [] m last n w e = n e
lacks-answer (r ∷ rows) m last n w e =
    let p = and_true (not (eqb (number r.1) m)) (without m rows) w in
    go r.0 (eqb-false (number r.1) m (not-true (eqb (number r.1) m) p.0)) (lacks-answer rows m last n p.1) e
  where
    go : (t : Bool) → (number r.1 ≡ m → ⊥) → (number (answer rows last) ≡ m → ⊥) → number (cond t r.1 (answer rows last)) ≡ m → ⊥
    go true a b x = a x
    go false a b x = b x

-- a success is given exactly when no row applies
pub done_none : (rows : List Row) (l m : List ℕ) → without 0 rows ≡ true → answer rows (done l) ≡ done m → NoRow rows
unfolding answer
done_none [] l m w e = tt
done_none (r ∷ rows) l m w e =
    let p = and_true (not (eqb (number r.1) 0)) (without 0 rows) w in
    go r.0 (done_none rows l m p.1) (eqb-false (number r.1) 0 (not-true (eqb (number r.1) 0) p.0)) e
  where
    go : (t : Bool) → (answer rows (done l) ≡ done m → NoRow rows) → (number r.1 ≡ 0 → ⊥) → cond t r.1 (answer rows (done l)) ≡ done m → (t ≡ false) × NoRow rows
    go true a b x = absurd (b (ap number x))
    go false a b x = (refl, a x)

-- the answer has the number of row k only where row k is the first that applies
answered_first : (l : List ℕ) (rows : List Row) → without 0 rows ≡ true → distinct rows ≡ true → (k : ℕ) → k < length rows → number (answer rows (done l)) ≡ number (outcome_at rows (done l) k) → First rows k
unfolding answer
answered_first l [] w d k h e = not-suc-le-zero h
answered_first l (r ∷ rows) w d k h e =
    let p = and_true (not (eqb (number r.1) 0)) (without 0 rows) w in
    let q = and_true (without (number r.1) rows) (distinct rows) d in
    go (eqb-false (number r.1) 0 (not-true (eqb (number r.1) 0) p.0)) q.0 (answered_first l rows p.1 q.1) r.0 refl k h e
  where
    go : (number r.1 ≡ 0 → ⊥) → without (number r.1) rows ≡ true → ((k : ℕ) → k < length rows → number (answer rows (done l)) ≡ number (outcome_at rows (done l) k) → First rows k)
        → (t : Bool) → r.0 ≡ t → (k : ℕ) → k < suc (length rows) → number (cond t r.1 (answer rows (done l))) ≡ number (outcome_at (r ∷ rows) (done l) k) → First (r ∷ rows) k
    go n w next true s zero h e = s
    go n w next true s (suc k) h e = absurd (lacks rows k (number r.1) (done l) (le_of_suc-le-suc h) w (sym e))
    go n w next false s zero h e = absurd (lacks-answer rows (number r.1) (done l) (λ x. n (sym x)) w e)
    go n w next false s (suc k) h e = (s, next k (le_of_suc-le-suc h) e)

-- so the number of an answer tells the whole of it
pub by_number : (rows : List Row) → numbered rows ≡ true → (l : List ℕ) (k : ℕ) → k < length rows → number (answer rows (done l)) ≡ number (outcome_at rows (done l) k) → answer rows (done l) ≡ outcome_at rows (done l) k
by_number rows n l k h e =
    let p = and_true (without 0 rows) (distinct rows) n in
    first_answers rows (done l) k (answered_first l rows p.0 p.1 k h e)

pub answer_exactly : (rows : List Row) → numbered rows ≡ true → AnswerExactly rows
answer_exactly rows n l =
    let p = and_true (without 0 rows) (distinct rows) n in
    (λ k h. (λ e. answered_first l rows p.0 p.1 k h (ap number e), first_answers rows (done l) k), (done_none rows l l p.0, none_answers rows (done l)))

-- what a call ends in where no row applies
pub none_ends : (rows : List Row) (l new old : List ℕ) → NoRow rows → ending (answer rows (done l)) new old ≡ ended (done l) new
none_ends rows l new old n = ap (λ (o : Outcome). ending o new old) (none_answers rows (done l) n)

-- a refusal leaves the buffer
refusal_leaves : (o : Outcome) (new old : List ℕ) → (number o ≡ 0 → ⊥) → ending o new old ≡ ended o old
refusal_leaves (done lengths) new old n = absurd (n refl)
refusal_leaves (refused row) new old n = refl
refusal_leaves (refused_at row at) new old n = refl

pub ends_exactly : (rows : List Row) → numbered rows ≡ true → (l new old : List ℕ) → EndsExactly rows l new old (ending (answer rows (done l)) new old)
ends_exactly rows n l new old =
    let exact = answer_exactly rows n l in
    let w = (and_true (without 0 rows) (distinct rows) n).0 in (
      λ k h. (
        λ e. (exact.0 k h).0 (ap (λ (x : End). x.outcome) e),
        λ f.
            ap (λ (o : Outcome). ending o new old) (first_answers rows (done l) k f)
            ∙ refusal_leaves (outcome_at rows (done l) k) new old (λ z. lacks rows k 0 (done l) h w z),
      ),
      (λ e. exact.1.0 (ap (λ (x : End). x.outcome) e), none_ends rows l new old),
    )

-- The tests of rows say, one by one, what rules ask for.
abbrev pub Matches : List Row → List Rule → Type 0
Matches [] [] = Unit {0}
Matches [] (x ∷ rules) = ⊥
Matches (r ∷ rows) [] = ⊥
Matches (r ∷ rows) (x ∷ rules) = (r.1 ≡ x.1) × ((r.0 ≡ false) ↔ x.0) × Matches rows rules

-- All that rules ask for is met.
abbrev pub Met : List Rule → Type 0
Met [] = Unit {0}
Met (x ∷ rules) = x.0 × Met rules

-- That is the case exactly when no row applies.
pub met_exactly : (rows : List Row) (rules : List Rule) → Matches rows rules → NoRow rows ↔ Met rules
met_exactly [] [] m = (λ n. tt, λ n. tt)
met_exactly [] (x ∷ rules) m = absurd m
met_exactly (r ∷ rows) [] m = absurd m
met_exactly (r ∷ rows) (x ∷ rules) m =
    let next = met_exactly rows rules m.2 in
    (λ n. (m.1.0 n.0, next.0 n.1), λ n. (m.1.1 n.0, next.1 n.1))

-- And then the call succeeds, and only then.
pub succeeds_exactly : (rows : List Row) (rules : List Rule) → Matches rows rules → without 0 rows ≡ true → (l new old : List ℕ) → Succeeded (ending (answer rows (done l)) new old) ↔ Met rules
succeeds_exactly rows rules m w l new old =
    let met = met_exactly rows rules m in
    (λ s. met.0 (done_none rows l s.0 w s.1), λ t. (l, none_answers rows (done l) (met.1 t)))

-- A call whose answer a comes from rows goes by the rules that these match.
module _ (a : Outcome) (l : List ℕ) (given : Outcome → Type 0) (success : Type 0) (gives : (o : Outcome) → given o → a ≡ o) (gave : (o : Outcome) → (number o ≡ 0 → ⊥) → a ≡ o → given o)
    (succeeds : success → a ≡ done l) (succeeded : a ≡ done l → success) where
  -- The answer is that of none of these rows, and no success.
  abbrev Elsewhere : List Row → Type 0
  Elsewhere rows = (without (number a) rows ≡ true) × (number a ≡ 0 → ⊥)

  -- What the rows before these ask for is met, or one of them gives the answer.
  abbrev Before : Type 0 → List Row → Type 0
  Before met rows = met ⊎ Elsewhere rows

  goes_by : (rows : List Row) (rules : List Rule) → Matches rows rules → without 0 rows ≡ true → distinct rows ≡ true → (met : Type 0) → (met → a ≡ answer rows (done l)) → Before met rows → Exactly given success met rules
  unfolding answer
  goes_by [] [] m w d met h before = (λ s. ⊎_elim (λ (q : met). q) (λ (n : Elsewhere []). absurd (n.1 (ap number (succeeds s)))) before, λ q. succeeded (h q))
  goes_by [] (x ∷ rules) m w d met h before = absurd m
  goes_by (r ∷ rows) [] m w d met h before = absurd m
  goes_by (r ∷ rows) (x ∷ rules) m w d met h before =
      let z = and_true (not (eqb (number r.1) 0)) (without 0 rows) w in
      let v = and_true (without (number r.1) rows) (distinct rows) d in
      go (eqb-false (number r.1) 0 (not-true (eqb (number r.1) 0) z.0)) v.0 (λ k b. goes_by rows rules m.2 z.1 v.1 (met × x.0) k b) r.0 refl before
    where
      -- where an earlier row applies this one is not given, and no later one
      other : Elsewhere (r ∷ rows) → (given x.1 → ⊥) × (without (number a) rows ≡ true)
      other n =
          let p = and_true (not (eqb (number r.1) (number a))) (without (number a) rows) n.0 in
          (λ g. eqb-false (number r.1) (number a) (not-true (eqb (number r.1) (number a)) p.0) (ap number (m.0 ∙ sym (gives x.1 g))), p.1)

      go : (number r.1 ≡ 0 → ⊥) → without (number r.1) rows ≡ true
          → ((met × x.0 → a ≡ answer rows (done l)) → Before (met × x.0) rows → Exactly given success (met × x.0) rules)
          → (t : Bool) → r.0 ≡ t → Before met (r ∷ rows) → (given x.1 ↔ (met × (x.0 → ⊥))) × Exactly given success (met × x.0) rules
      go z v next true e b =
          let applies : met → a ≡ r.1 = λ q. rw e at (h q) in
          let unmet : x.0 → ⊥ = λ p. true_false (sym e ∙ m.1.1 p) in (
            (
              λ g. ⊎_elim (λ (q : met). (q, unmet)) (λ (n : Elsewhere (r ∷ rows)). absurd ((other n).0 g)) b,
              λ k. gave x.1 (λ i. z (ap number m.0 ∙ i)) (applies k.0 ∙ m.0),
            ),
            next (λ k. absurd (unmet k.1))
                (⊎_elim (λ (q : met). inr (rw (ap number (applies q)) v, λ i. z (sym (ap number (applies q)) ∙ i))) (λ (n : Elsewhere (r ∷ rows)). inr ((other n).1, n.1)) b),
          )
      go z v next false e b =
          let skips : met → a ≡ answer rows (done l) = λ q. rw e at (h q) in (
            (
              λ g.
                  ⊎_elim (λ (q : met). absurd (lacks-answer rows (number r.1) (done l) (λ i. z (sym i)) v (ap number (sym (skips q) ∙ gives x.1 g ∙ sym m.0))))
                  (λ (n : Elsewhere (r ∷ rows)). absurd ((other n).0 g)) b,
              λ k. absurd (k.1 (m.1.0 e)),
            ),
            next (λ k. skips k.0) (⊎_elim (λ (q : met). inl (q, m.1.0 e)) (λ (n : Elsewhere (r ∷ rows)). inr ((other n).1, n.1)) b),
          )

pub answers_by : (rows : List Row) (rules : List Rule) → Matches rows rules → numbered rows ≡ true → (l : List ℕ) → AnswersBy rules l (answer rows (done l))
answers_by rows rules m n l =
    let a = answer rows (done l) in
    let w = and_true (without 0 rows) (distinct rows) n in
    goes_by a l (λ o. a ≡ o) (a ≡ done l) (λ o g. g) (λ o z q. q) (λ s. s) (λ q. q) rows rules m w.0 w.1 (Unit {0}) (λ u. refl) (inl tt)

pub ends_by : (rows : List Row) (rules : List Rule) → Matches rows rules → numbered rows ≡ true → (l new old : List ℕ) → EndsBy rules l new old (ending (answer rows (done l)) new old)
ends_by rows rules m n l new old =
    let a = answer rows (done l) in
    let w = and_true (without 0 rows) (distinct rows) n in
    let e = ending a new old in
    goes_by a l (λ o. e ≡ ended o old) (e ≡ ended (done l) new) (λ o g. ap (λ (x : End). x.outcome) g)
    (λ o z q. ap (λ (x : Outcome). ending x new old) q ∙ refusal_leaves o new old z) (λ s. ap (λ (x : End). x.outcome) s)
    (λ q. ap (λ (x : Outcome). ending x new old) q) rows rules m w.0 w.1 (Unit {0}) (λ u. refl) (inl tt)
