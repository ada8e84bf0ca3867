-- When the mend succeeds, and what it ends in.
-- Assumes nothing.
use mathlib.Core.Path.{◌≡◌, refl, sym, ap, ◌∙◌, subst}
use mathlib.Core.Bool.{true, false, not}
use mathlib.Core.Logic.{◌↔◌}
use mathlib.Core.List.{List, [], ◌∷◌}
use Prim.Native.Nat.{ℕ, ◌+◌, ◌-◌, ◌*◌, ◌/◌, ◌≤◌, ◌<◌}
use native.Mathlib.Nat.{mul-zero}
use native.Mathlib.Omega.{arith}
use lib.ListN.{length}
use lib.Dec.{eqb}
use borrow.Author.Tests.{ltb-true, ltb-false, lt-ltb, le-ltb, eqb-true, eq-eqb, not-false}
use Rattle.octets.specs.Rows.{Outcome, done, refused, refused_at, answer, number, First, End, ended, ending, Succeeded}
use Rattle.octets.proofs.Equality.{and_true, true_and}
use Rattle.octets.proofs.Tests.{self, both_exactly, not_fails, ltb_fails}
use Rattle.octets.proofs.Rows.{Matches, first_answers, by_number, answer_exactly, done_none, none_ends, ends_by}
use Rattle.frame.specs.Layout.{chunk_size, covering, repeats, clear_length, right_length, header_at, Inside, lowest_bad}
use Rattle.frame.specs.Frame.{Codec, bad_chunk}
use Rattle.frame.specs.Statements.{WrongTag}
use Rattle.frame.proofs.Pieces.{covers_count}
use Rattle.frame.proofs.Rules.{length_exactly, covering-good, row_test}
use Rattle.frame.proofs.RowTen.{bad_is_bad, least}
use Rattle.mend_spec.specs.Mend.{any_in_use, clashes, mended_from, mended, mend_rows, mend_file}
use Rattle.mend_spec.specs.Rules.{NonceForEach, FreshNonces, mend_rules}
use Rattle.mend_spec.specs.Statements.{MendRowsExactly, MendRowsAscend, MendRowTen, MendRowOne, MendRowsFourToNine, EmptyMend}
use Rattle.mend_spec.proofs.Nonces.{covering_none, covering-number, counted_exactly, counted_by, clashes_exactly}

-- the number that a row returns
abbrev at : Outcome → ℕ
at (done lengths) = 0
at (refused row) = 0
at (refused_at row i) = i

module _ (C : Codec) where
  open C use {sizes as z, keys_right, header_good}

  -- what a success says
  pub record Mends (f : List ℕ) (from : ℕ) (new nonces : List ℕ) : Type 0 where
    pub keyed : keys_right ≡ true
    pub counted : length nonces ≡ z.nonce * covering from (length new)
    pub inside : Inside z (length f) from (length new)
    pub fresh : clashes z f from (length new) nonces ≡ false
    pub headed : header_good (header_at z f) ≡ true
    pub tagged : from / chunk_size + covering from (length new) ≤ bad_chunk C f from (length new)

  module _ (f : List ℕ) (from : ℕ) (new nonces : List ℕ) where
    -- what the mend ends in, by its answer
    pub mend_ends : (o : Outcome) → answer (mend_rows C f from new nonces) (done (length new ∷ [])) ≡ o → mend_file C f from new nonces ≡ ending o (mended C f from new nonces) f
    unfolding mend_file
    mend_ends o e = ap (λ (x : Outcome). ending x (mended C f from new nonces) f) e

    pub mends : (l : List ℕ) → answer (mend_rows C f from new nonces) (done (length new ∷ [])) ≡ done l → Mends f from new nonces
    unfolding mend_rows
    mends l e =
        let n = done_none (mend_rows C f from new nonces) (length new ∷ []) l refl e in
        let k = and_true keys_right (eqb (length nonces) (z.nonce * covering from (length new))) (not-false _ n.0) in
        record {
          keyed = k.0;
          counted = eqb-true (length nonces) (z.nonce * covering from (length new)) k.1;
          inside = record { right = not-false (right_length z (length f)) n.1.0; within = ltb-false (clear_length z (length f)) (from + length new) n.1.1.0 };
          fresh = n.1.1.1.0;
          headed = not-false (header_good (header_at z f)) n.1.1.1.1.0;
          tagged = ltb-false (bad_chunk C f from (length new)) (from / chunk_size + covering from (length new)) n.1.1.1.1.1.0;
        }

    pub mend_succeeded : Succeeded (mend_file C f from new nonces) → Mends f from new nonces
    unfolding mend_file
    mend_succeeded s = mends s.0 s.1

    pub mend_succeeds : Mends f from new nonces → mend_file C f from new nonces ≡ ended (done (length new ∷ [])) (mended C f from new nonces)
    unfolding mend_file mend_rows
    mend_succeeds m =
        none_ends (mend_rows C f from new nonces) (length new ∷ []) (mended C f from new nonces) f (
          ap not (true_and keys_right _ m.keyed (eq-eqb (length nonces) (z.nonce * covering from (length new)) m.counted)),
          (
            ap not m.inside.right,
            (
              le-ltb (clear_length z (length f)) (from + length new) m.inside.within,
              (m.fresh, (ap not m.headed, (le-ltb (bad_chunk C f from (length new)) (from / chunk_size + covering from (length new)) m.tagged, tt))),
            ),
          ),
        )

  -- ---- an empty range

  none_mended : (f : List ℕ) (from : ℕ) (nonces : List ℕ) → mended C f from [] nonces ≡ f
  unfolding mended mended_from covering
  none_mended f from nonces = refl

  unchanged : (f : List ℕ) (from : ℕ) (nonces : List ℕ) → (mend_file C f from [] nonces).buffer ≡ f
  unfolding mend_file mended mended_from covering
  unchanged f from nonces = go (answer (mend_rows C f from [] nonces) (done (0 ∷ [])))
    where
      go : (o : Outcome) → (ending o f f).buffer ≡ f
      go (done lengths) = refl
      go (refused row) = refl
      go (refused_at row i) = refl

  none_clashes : (f : List ℕ) (from : ℕ) (nonces : List ℕ) → clashes z f from 0 nonces ≡ false
  unfolding clashes covering repeats any_in_use
  none_clashes f from nonces = refl

  none_bad : (f : List ℕ) (from : ℕ) → from / chunk_size + covering from 0 ≤ bad_chunk C f from 0
  unfolding bad_chunk covering lowest_bad
  none_bad f from = omega arith

  none_counted : (from : ℕ) → z.nonce * covering from 0 ≡ 0
  unfolding covering
  none_counted from = mul-zero z.nonce

  -- ---- the statements on rows

  module _ (Keys : Type 0) (keys : (keys_right ≡ true) ↔ Keys) where
    pub mend_matches : (f : List ℕ) (from : ℕ) (new nonces : List ℕ) → Matches (mend_rows C f from new nonces) (mend_rules C Keys f from new nonces)
    unfolding mend_rows
    mend_matches f from new nonces = (
      refl,
      not_fails (both_exactly keys (counted_exactly z from (length new) nonces)),
      (
        refl,
        not_fails (length_exactly z (length f)),
        (
          refl,
          ltb_fails (clear_length z (length f)) (from + length new),
          (
            refl,
            clashes_exactly z f from (length new) nonces,
            (refl, not_fails (self (header_good (header_at z f))), (refl, row_test (covering-good C f from (length new)), tt)),
          ),
        ),
      ),
    )

    pub mend_rows_exactly : MendRowsExactly C Keys
    unfolding mend_rows mend_file
    mend_rows_exactly f from new nonces =
        ends_by (mend_rows C f from new nonces) (mend_rules C Keys f from new nonces) (mend_matches f from new nonces) refl (length new ∷ []) (mended C f from new nonces) f

    pub mend_row_one : MendRowOne C Keys
    mend_row_one f from new nonces =
        let a = (mend_rows_exactly f from new nonces).0 in
        let n = length new in
        let o = mul-zero z.nonce in (
          λ e. let k = counted_by z from n 0 nonces (covering_none from n e) in (λ g t. (a.0 g).1 (t.0, k.1 (t.1 ∙ sym o)), λ h. a.1 (tt, λ t. h (t.0, k.0 t.1 ∙ o))),
          λ s.
              let k = counted_by z from n ((from + n - 1) / chunk_size + 1 - from / chunk_size) nonces (covering-number from n s) in
              (λ g t. (a.0 g).1 (t.0, k.1 t.1), λ h. a.1 (tt, λ t. h (t.0, k.0 t.1))),
        )

    pub mend_rows_four_to_nine : MendRowsFourToNine C Keys
    mend_rows_four_to_nine f from new nonces =
        let a = (mend_rows_exactly f from new nonces).1 in (
          (λ g. ((a.0.0 g).0.1, (a.0.0 g).1), λ t. a.0.1 ((tt, t.0), t.1)),
          (λ g. let m = a.1.0.0 g in (m.0.0.1, m.0.1, m.1), λ t. a.1.0.1 (((tt, t.0), t.1), t.2)),
          (λ g. let m = a.1.1.0.0 g in (m.0.0.0.1, m.0.0.1, m.0.1, m.1), λ t. a.1.1.0.1 ((((tt, t.0), t.1), t.2), t.3)),
          (λ g. let m = a.1.1.1.0.0 g in (m.0.0.0.0.1, m.0.0.0.1, m.0.0.1, m.0.1, m.1), λ t. a.1.1.1.0.1 (((((tt, t.0), t.1), t.2), t.3), t.4)),
        )

    pub mend_rows-ascend : MendRowsAscend C Keys
    mend_rows-ascend f from new nonces = refl

    pub empty_mend : EmptyMend C Keys
    empty_mend f from nonces = (
      unchanged f from nonces,
      (
        λ e.
            let m = mend_succeeded f from [] nonces (0 ∷ [], ap (λ (x : End). x.outcome) e) in
            (keys.0 m.keyed, m.counted ∙ none_counted from, m.inside, m.headed),
        λ t.
            mend_succeeds f from [] nonces
            (record { keyed = keys.1 t.0; counted = t.1 ∙ sym (none_counted from); inside = t.2; fresh = none_clashes f from nonces; headed = t.3; tagged = none_bad f from })
            ∙ ap (ended (done (0 ∷ []))) (none_mended f from nonces),
      ),
    )

    -- ---- row 10

    module _ (f : List ℕ) (from i : ℕ) (new nonces : List ℕ) where
      abbrev Lowest : ℕ → Type 0
      Lowest k = WrongTag C f from (length new) k × ((j : ℕ) → WrongTag C f from (length new) j → k ≤ j)

      abbrev Says : Type 0
      Says =
          Keys × NonceForEach z from (length new) nonces × Inside z (length f) from (length new) × FreshNonces z f from (length new) nonces × (header_good (header_at z f) ≡ true)
          × WrongTag C f from (length new) i × ((j : ℕ) → WrongTag C f from (length new) j → i ≤ j)

      bad : ℕ
      bad = bad_chunk C f from (length new)

      lowest : (mend_file C f from new nonces).outcome ≡ refused_at 10 i → Says
      unfolding mend_file mend_rows bad
      lowest e =
          let rows = mend_rows C f from new nonces in
          let l = length new ∷ [] in
          let m = mend_matches f from new nonces in
          let a = by_number rows refl l 5 (omega arith) (ap number e) in
          let t = ((answer_exactly rows refl l).0 5 (omega arith)).0 a in
          let first = m.1.0 t.0 in
          let s : Inside z (length f) from (length new) =
          record { right = not-false (right_length z (length f)) t.1.0; within = ltb-false (clear_length z (length f)) (from + length new) t.1.1.0 } in
          let h = ltb-true bad (from / chunk_size + covering from (length new)) t.1.1.1.1.1 in
          let low = subst Lowest (ap at (sym a ∙ e)) (bad_is_bad C Keys keys f from (length new) s h, least C Keys keys f from (length new)) in
          (first.0, first.1, s, (clashes_exactly z f from (length new) nonces).0 t.1.1.1.0, not-false (header_good (header_at z f)) t.1.1.1.1.0, low.0, low.1)

      given : Says → mend_file C f from new nonces ≡ ended (refused_at 10 i) f
      unfolding mend_file mend_rows bad
      given t =
          let v = t.5 in
          let u : i < from / chunk_size + covering from (length new) = covers_count from (length new) i v.0.some v.0.low v.0.high in
          let below = least C Keys keys f from (length new) i v in
          let h : bad < from / chunk_size + covering from (length new) = omega (arith, u, below) in
          let e : bad ≡ i = omega (arith, below, t.6 bad (bad_is_bad C Keys keys f from (length new) t.2 h)) in
          let first : First (mend_rows C f from new nonces) 5 = (
            (not_fails (both_exactly keys (counted_exactly z from (length new) nonces))).1 (t.0, t.1),
            (
              ap not t.2.right,
              (
                le-ltb (clear_length z (length f)) (from + length new) t.2.within,
                ((clashes_exactly z f from (length new) nonces).1 t.3, (ap not t.4, lt-ltb bad (from / chunk_size + covering from (length new)) h)),
              ),
            ),
          ) in
          ap (λ (o : Outcome). ending o (mended C f from new nonces) f) (first_answers (mend_rows C f from new nonces) (done (length new ∷ [])) 5 first)
          ∙ ap (λ (k : ℕ). ended (refused_at 10 k) f) e

    pub mend_row_ten : MendRowTen C Keys
    mend_row_ten f from i new nonces = (λ e. lowest f from i new nonces (ap (λ (x : End). x.outcome) e), given f from i new nonces)
