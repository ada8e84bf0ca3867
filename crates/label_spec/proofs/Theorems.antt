-- The statements of specs/Statements.antt, each under its name.
-- Assumes nothing.
use Prim.Native.Nat.{ℕ}
use mathlib.Core.Path.{◌≡◌, refl, sym, ap, ◌∙◌, subst}
use mathlib.Core.List.{[], ◌∷◌}
use lib.ListN.{length}
use Rattle.hmac.specs.Hmac.{hmac_sha256}
use Rattle.threshold.specs.Threshold.{ThresholdFits}
use Rattle.octets.specs.Rows.{Outcome, refused, refused_at, number}
use Rattle.octets.proofs.Rows.{answers_by}
use Rattle.utf8.proofs.Options.{some_same}
use Rattle.label_spec.specs.Label.{hs256, combo_number, Reading, said, unreadable, open_label_rows, open_label}
use Rattle.label_spec.specs.Rules.{Says, Unsigned, open_label_rules}
use Rattle.label_spec.specs.Statements.{LabelRowsExactly, RowsOfReadings, KnownCombo, SegmentPlaces, OneReading, OpensExactly}
use Rattle.label_spec.proofs.Reading.{reads_exactly}
use Rattle.label_spec.proofs.Rows.{label_matches, by_row_13}
use Rattle.label_spec.proofs.Broken.{unreadable-number, placed-broken, broken-placed, broken_unread, unplaced, no_place}
use Rattle.label_spec.proofs.Opening.{opens, opened}

pub label_rows_exactly : LabelRowsExactly
unfolding open_label open_label_rows
label_rows_exactly key l = (
  answers_by (open_label_rows key l) (open_label_rules key l) (label_matches key l) (rw (unreadable-number l)) (combo_number (said l).combo ∷ (said l).threshold.1 ∷ []),
  ap (λ (n : ℕ). 1 ∷ n ∷ 14 ∷ 15 ∷ 16 ∷ 17 ∷ 18 ∷ []) (unreadable-number l),
)

pub one_reading : OneReading
one_reading l r q a b = some_same (sym ((reads_exactly l r).1 a) ∙ (reads_exactly l q).1 b)

pub opens_exactly : OpensExactly
opens_exactly key l combo threshold = (opens key l combo threshold, opened key l combo threshold)

pub rows_of_readings : RowsOfReadings
rows_of_readings key l n =
    let e = (label_rows_exactly key l).0 in (
      (λ x. let k = e.1.0.0 (by_row_13 key l x) in λ r m. k.1 (r, m, tt), λ x. ap number (e.1.0.1 ((tt, n), λ s. x s.0 s.1)) ∙ unreadable-number l),
      λ r m.
          let says : (P : Reading → Type 0) → P r → Says l P = λ P p. (r, m, p) in
          let of : (P : Reading → Type 0) → Says l P → P r = λ P s. subst P (one_reading l s.0 r s.1 m) s.2 in
          let read : (Unit {0} × (length key ≡ 64)) × Says l (λ r. Unit {0}) = ((tt, n), (r, m, tt)) in
          let alg : Reading → Type 0 = λ r. r.alg ≡ hs256 in
          let mac : Reading → Type 0 = λ r. hmac_sha256 key r.signed ≡ r.signature in
          let eight : Reading → Type 0 = λ r. Unsigned r.format (λ n. n ≡ 8) in
          let fits : Reading → Type 0 = λ r. Unsigned r.threshold ThresholdFits in
          let f = e.1.1 in (
            (λ x. λ p. (f.0.0 x).1 (says alg p), λ x. f.0.1 (read, λ s. x (of alg s))),
            (λ x. let k = f.1.0.0 x in (of alg k.0.1, λ p. k.1 (says mac p)), λ x. f.1.0.1 ((read, says alg x.0), λ s. x.1 (of mac s))),
            (
              λ x. let k = f.1.1.0.0 x in ((of alg k.0.0.1, of mac k.0.1), λ p. k.1 (says eight p)),
              λ x. f.1.1.0.1 (((read, says alg x.0.0), says mac x.0.1), λ s. x.1 (of eight s)),
            ),
            (
              λ x. let k = f.1.1.1.0.0 x in ((of alg k.0.0.0.1, of mac k.0.0.1), of eight k.0.1, λ p. k.1 (says KnownCombo p)),
              λ x. f.1.1.1.0.1 ((((read, says alg x.0.0), says mac x.0.1), says eight x.1), λ s. x.2 (of KnownCombo s)),
            ),
            (
              λ x. let k = f.1.1.1.1.0.0 x in ((of alg k.0.0.0.0.1, of mac k.0.0.0.1), of eight k.0.0.1, of KnownCombo k.0.1, λ p. k.1 (says fits p)),
              λ x. f.1.1.1.1.0.1 (((((read, says alg x.0.0), says mac x.0.1), says eight x.1), says KnownCombo x.2), λ s. x.3 (of fits s)),
            ),
          ),
    )

pub segment_places : SegmentPlaces
segment_places key l =
    let given = (label_rows_exactly key l).0.1.0 in
    let by : number (open_label key l) ≡ 13 → (length key ≡ 64) × (Says l (λ r. Unit {0}) → ⊥) = λ n. let k = given.0 (by_row_13 key l n) in (k.0.1, k.1) in
    let is : (o : Outcome) → number o ≡ 13 → open_label key l ≡ o → unreadable l ≡ o = λ o n e. sym (by_row_13 key l (ap number e ∙ n)) ∙ e in (
      λ p. (
        λ e. ((by (ap number e)).0, placed-broken l p (is (refused_at 13 p) refl e)),
        λ k. given.1 ((tt, k.0), λ s. broken_unread l p k.1 s.0 s.1) ∙ broken-placed l p k.1,
      ),
      (
        λ e. let k = by (ap number e) in (k.0, λ r m. k.1 (r, m, tt), λ p b. no_place p (sym (is (refused 13) refl e) ∙ broken-placed l p b)),
        λ k. given.1 ((tt, k.0), λ s. k.1 s.0 s.1) ∙ unplaced l k.2,
      ),
    )
