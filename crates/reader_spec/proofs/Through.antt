-- A read through a reader goes by its rules; through one that was made for a file it is the range read of that file.
-- Assumes nothing.
use mathlib.Core.Path.{◌≡◌, refl, sym, ap, ap₂, ◌∙◌}
use mathlib.Core.Bool.{Bool, true, not}
use mathlib.Core.Logic.{◌↔◌}
use mathlib.Core.List.{List, [], ◌∷◌}
use Prim.Native.Nat.{ℕ, ◌+◌, ◌/◌, ◌<◌}
use lib.ListN.{length, take, drop}
use lib.Seq.{take-take}
use lib.Dec.{ltb}
use Rattle.octets.specs.Bytes.{filled}
use Rattle.octets.specs.Rows.{Outcome, done, refused, refused_at, answer, End, ended, ending}
use Rattle.octets.proofs.Tests.{not_fails, ltb_fails}
use Rattle.octets.proofs.Rows.{Matches, ends_by, first_answers, succeeds_exactly}
use Rattle.frame.specs.Layout.{chunk_size, covering, clear_length, right_length, header_at, lowest_bad, all_parts}
use Rattle.frame.specs.Frame.{Codec, head_with, head_in, clear_of, bad_chunk, range_rows, read_range}
use Rattle.frame.proofs.Lengths.{right-short}
use Rattle.frame.proofs.Rules.{length_exactly, covering-good, row_test}
use Rattle.frame.proofs.RowTen.{row_ten}
use Rattle.reader_spec.specs.Reader.{Reader, no_bytes, Making, reader_of, head_through, clear_through, bad_through, through_rows, read_through}
use Rattle.reader_spec.specs.Rules.{through_rules}
use Rattle.reader_spec.specs.Statements.{ReaderLaws, ThroughExactly, ReaderRowsAscend, ThroughRowsFourToSeven, ThroughRowTen, KeptReads, ReaderExactly}
use Rattle.reader_spec.proofs.Making.{making_exactly, makes_as_reads, opened_by, refused_by}

module _ (C : Codec) where
  open C use {sizes as z, keys_right, header_good, good, plain}

  -- The combo that takes every header, as one that says what the reader r says. A read through r is a range read by it.
  abbrev pub kept : Reader → Codec
  kept r =
      record {
        sizes = z;
        keys_right = true;
        header_of = C.header_of;
        chunk_of = C.chunk_of;
        head_of = λ b. head_through C r;
        header_good = λ b. true;
        good = good;
        plain = plain;
      }

  pub read_kept_lem : (r : Reader) (from count : ℕ) (out : List ℕ) → read_through C r from count out ≡ read_range (kept r) r.file from count out
  unfolding read_through through_rows clear_through bad_through read_range range_rows clear_of bad_chunk head_in answer
  read_kept_lem r from count out = refl

  -- ---- the rules

  through_matches : (r : Reader) (from count room : ℕ) → Matches (through_rows C r from count room) (through_rules C r from count room)
  unfolding through_rows bad_through bad_chunk head_in
  through_matches r from count room = (
    refl,
    not_fails (length_exactly z (length r.file)),
    (refl, ltb_fails (clear_length z (length r.file)) (from + count), (refl, ltb_fails room count, (refl, row_test (covering-good (kept r) r.file from count), tt))),
  )

  pub through_exactly : ThroughExactly C
  unfolding read_through through_rows clear_through
  through_exactly r from count out =
      ends_by (through_rows C r from count (length out)) (through_rules C r from count (length out)) (through_matches r from count (length out)) refl (count ∷ []) (filled (drop from (clear_through C r)) count out) out

  pub rows_ascend : (Keys : Type 0) → ReaderRowsAscend C Keys
  rows_ascend Keys = (λ f. refl, λ r from count room. refl)

  pub through_row_ten : ThroughRowTen C
  unfolding head_in
  through_row_ten r from count i out =
      let t = row_ten (kept r) (Unit {0}) (λ e. tt, λ u. refl) r.file from count i out in
      let e = read_kept_lem r from count out in
      (λ g. let s = t.0 (sym e ∙ g) in (s.1, s.2, s.4, s.5), λ s. e ∙ t.1 (tt, s.0, s.1, refl, s.2, s.3))

  pub rows_four_to_seven : ThroughRowsFourToSeven C
  unfolding read_through through_rows
  rows_four_to_seven r from count out =
      let t = through_exactly r from count out in
      let length-right = length_exactly z (length r.file) in
      let s = succeeds_exactly (through_rows C r from count (length out)) (through_rules C r from count (length out)) (through_matches r from count (length out)) refl (count ∷ []) (filled (drop from (clear_through C r)) count out) out in (
        (λ e. (t.0.0 e).1, λ n. t.0.1 (tt, n)),
        (λ e. let g = t.1.0.0 e in (g.0.1, g.1), λ n. t.1.0.1 ((tt, n.0), n.1)),
        (λ e. let g = t.1.1.0.0 e in (g.0.0.1, g.0.1, g.1), λ n. t.1.1.0.1 (((tt, n.0), n.1), n.2)),
        (
          λ e. let m = s.0 e in (record { right = length-right.1 m.0; within = m.1.0 }, m.1.1.0, λ i c. m.1.1.1.0 i c.some c.low c.high),
          λ g.
              let c = g.0 in
              s.1 (length-right.0 c.right, (c.within, (g.1, ((λ i s a b. g.2 i (record { inside = c; some = s; low = a; high = b })), tt)))),
        ),
      )

  -- ---- through a reader that was made

  -- a reader of a file says what its header says, but for the reserved bytes
  module _ (laws : ReaderLaws C) (f : List ℕ) where
    said : (head_through C (reader_of C f)).nonce ≡ (head_in C f).nonce
    unfolding head_in header_at reader_of
    said = sym (laws.nonce-first (take z.header f) ∙ take-take z.nonce z.header f laws.nonce-within)

    good-said : good (head_through C (reader_of C f)) ≡ good (head_in C f)
    unfolding reader_of
    good-said = ap (λ (n : List ℕ). good (head_with n [] (head_in C f).key)) said ∙ laws.good_alike (head_in C f).nonce [] (head_in C f).reserved (head_in C f).key

    plain-said : plain (head_through C (reader_of C f)) ≡ plain (head_in C f)
    unfolding reader_of
    plain-said = ap (λ (n : List ℕ). plain (head_with n [] (head_in C f).key)) said ∙ laws.plain_alike (head_in C f).nonce [] (head_in C f).reserved (head_in C f).key

    clear-said : clear_through C (reader_of C f) ≡ clear_of C f
    unfolding clear_through clear_of reader_of
    clear-said = ap (λ (p : ℕ → List ℕ → List ℕ). all_parts z p f) plain-said

    bad_said : (from count : ℕ) → bad_through C (reader_of C f) from count ≡ bad_chunk C f from count
    unfolding bad_through bad_chunk reader_of
    bad_said from count = ap (λ (g : ℕ → List ℕ → Bool). lowest_bad z g f (from / chunk_size) (covering from count)) good-said

    -- the end of a read, by the cleartext and the lowest bad chunk
    abbrev end_by : ℕ → ℕ → List ℕ → List ℕ → ℕ → End
    end_by from count out clear bad =
        ending
        (answer
        ((not (right_length z (length f)), refused 4)
        ∷ (ltb (clear_length z (length f)) (from + count), refused 6)
        ∷ (ltb (length out) count, refused 7)
        ∷ (ltb bad (from / chunk_size + covering from count), refused_at 10 bad)
        ∷ [])
        (done (count ∷ [])))
        (filled (drop from clear) count out) out

    read_by : keys_right ≡ true → header_good (header_at z f) ≡ true → (from count : ℕ) (out : List ℕ) → end_by from count out (clear_of C f) (bad_chunk C f from count) ≡ read_range C f from count out
    unfolding read_range range_rows answer
    read_by k h from count out = rw (k, h)

    pub reads_alike : keys_right ≡ true → header_good (header_at z f) ≡ true → (from count : ℕ) (out : List ℕ) → read_through C (reader_of C f) from count out ≡ read_range C f from count out
    unfolding read_through through_rows reader_of
    reads_alike k h from count out = ap₂ (end_by from count out) clear-said (bad_said from count) ∙ read_by k h from count out

  none_through : 0 < z.header → (from count : ℕ) (out : List ℕ) → read_through C no_bytes from count out ≡ ended (refused 4) out
  unfolding read_through through_rows
  none_through h from count out =
      ap (λ (o : Outcome). ending o (filled (drop from (clear_through C no_bytes)) count out) out)
      (first_answers (through_rows C no_bytes from count (length out)) (done (count ∷ [])) 0 (ap not (right-short z 0 h)))

  module _ (laws : ReaderLaws C) (Keys : Type 0) (keys : (keys_right ≡ true) ↔ Keys) where
    pub kept_reads : KeptReads C Keys
    unfolding header_at
    kept_reads f from count out = (
      λ o. ap (λ (m : Making). read_through C m.reader from count out) (opened_by C Keys keys f o) ∙ reads_alike laws f (keys.1 o.0) o.2 from count out,
      λ n. ap (λ (r : Reader). read_through C r from count out) (refused_by C Keys keys f n) ∙ none_through laws.header-some from count out,
    )

    pub reader_exactly : ReaderExactly C Keys
    reader_exactly =
        record {
          making_exactly = making_exactly C Keys keys;
          makes_as_reads = makes_as_reads C;
          through_exactly = through_exactly;
          rows_ascend = rows_ascend Keys;
          rows_four_to_seven = rows_four_to_seven;
          row_ten = through_row_ten;
          kept_reads = kept_reads;
        }
