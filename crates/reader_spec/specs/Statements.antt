-- What is stated of a kept reader, over any cipher combo; that it reads as the range read does, over one that meets `ReaderLaws`.
-- Assumes nothing.
use Rattle.std.specs.Prelude.{◌≡◌, true, false, ◌↔◌, List, [], ◌∷◌, ℕ, ◌+◌, ◌≤◌, ◌<◌, length, take, drop}
use Rattle.octets.specs.Bytes.{filled}
use Rattle.octets.specs.Rows.{done, refused, refused_at, number, Exactly, EndsBy, numbers, ended, Succeeded}
use Rattle.frame.specs.Layout.{clear_length, chunk_at, all_parts, Inside, Covers}
use Rattle.frame.specs.Frame.{Codec, head_with, read_range}
use Rattle.frame.specs.Rules.{FileLength}
use Rattle.reader_spec.specs.Reader.{Reader, reader_with, no_bytes, made, open_reader, read_through}
use Rattle.reader_spec.specs.Rules.{GoodThrough, making_rules, through_rules}

module _ (C : Codec) where
  open C use {sizes as z, head_of, header_good, good, plain}

  -- What a combo has to meet so that reads through a reader agree with the range read: a header has at least one byte and begins with its nonce; chunks do not depend on the
  -- reserved bytes.
  pub record ReaderLaws : Type 0 where
    pub header-some : 0 < z.header
    pub nonce-within : z.nonce ≤ z.header
    pub nonce-first : (b : List ℕ) → (head_of b).nonce ≡ take z.nonce b
    pub good_alike : (n r r' k : List ℕ) → good (head_with n r k) ≡ good (head_with n r' k)
    pub plain_alike : (n r r' k : List ℕ) → plain (head_with n r k) ≡ plain (head_with n r' k)

  -- The making goes by its rules, exactly: a row comes with the reader of no bytes; a success returns the cleartext's length, and gives the reader of the whole file and of
  -- the content key that its header has.
  abbrev pub MakingExactly : Type 0 → Type 0
  MakingExactly Keys =
      (f : List ℕ)
      → Exactly (λ o. open_reader C f ≡ made o no_bytes) (open_reader C f ≡ made (done (clear_length z (length f) ∷ [])) (reader_with f (head_of (take z.header f)).key)) (Unit {0}) (making_rules C Keys f)

  -- The making is refused by the row by which the range read of no bytes from 0 on is, and succeeds where that does.
  abbrev pub MakesAsReads : Type 0
  MakesAsReads = (f out : List ℕ) → number (open_reader C f).outcome ≡ number (read_range C f 0 0 out).outcome

  -- A read through any reader goes by its rules, exactly; a success leaves the range of the chunks' cleartext, under the header's nonce, which the file begins with, and the
  -- reader's content key, at the front of the buffer.
  abbrev pub ThroughExactly : Type 0
  ThroughExactly =
      (r : Reader) (from count : ℕ) (out : List ℕ)
      → EndsBy (through_rules C r from count (length out)) (count ∷ []) (filled (drop from (all_parts z (plain (head_with (take z.nonce r.file) [] r.key)) r.file)) count out) out (read_through C r from count out)

  -- The numbers of the rules, written out: they ascend, so that the lowest of the rows that apply is given.
  abbrev pub ReaderRowsAscend : Type 0 → Type 0
  ReaderRowsAscend Keys =
      ((f : List ℕ) → numbers (making_rules C Keys f) ≡ 1 ∷ 4 ∷ 9 ∷ [])
      × ((r : Reader) (from count room : ℕ) → numbers (through_rules C r from count room) ≡ 4 ∷ 6 ∷ 7 ∷ 10 ∷ [])

  -- Rows 4, 6 and 7 of a read, each with all that has to hold before it; and a success: exactly where the range is inside, there is room and every covering chunk is good.
  abbrev pub ThroughRowsFourToSeven : Type 0
  ThroughRowsFourToSeven =
      (r : Reader) (from count : ℕ) (out : List ℕ) →
      let e = read_through C r from count out in
      let l = length r.file in
      ((e ≡ ended (refused 4) out) ↔ (FileLength z l → ⊥))
      × ((e ≡ ended (refused 6) out) ↔ (FileLength z l × (from + count ≤ clear_length z l → ⊥)))
      × ((e ≡ ended (refused 7) out) ↔ (FileLength z l × (from + count ≤ clear_length z l) × (count ≤ length out → ⊥)))
      × (Succeeded e ↔ (Inside z l from count × (count ≤ length out) × ((i : ℕ) → Covers z l from count i → GoodThrough C r i)))

  -- Chunk i covers the range, and its tag is wrong under the header's nonce, which the file begins with, and the reader's content key.
  abbrev pub WrongThrough : Reader → ℕ → ℕ → ℕ → Type 0
  WrongThrough r from count i =
      Covers z (length r.file) from count i × (good (head_with (take z.nonce r.file) [] r.key) i (chunk_at z r.file i) ≡ false)

  -- Row 10 is given with the number i exactly when the range is inside, there is room, and i is the lowest covering chunk whose tag is wrong.
  abbrev pub ThroughRowTen : Type 0
  ThroughRowTen =
      (r : Reader) (from count i : ℕ) (out : List ℕ)
      → (read_through C r from count out ≡ ended (refused_at 10 i) out)
      ↔ (Inside z (length r.file) from count × (count ≤ length out)
      × WrongThrough r from count i × ((j : ℕ) → WrongThrough r from count j → i ≤ j))

  -- A read through the reader that the making gave. Where the master keys and the file have their lengths and the header is good, it ends as the range read of
  -- that file, answer and buffer; and else by row 4.
  abbrev pub KeptReads : Type 0 → Type 0
  KeptReads Keys =
      (f : List ℕ) (from count : ℕ) (out : List ℕ) →
      let Passes = Keys × FileLength z (length f) × (header_good (take z.header f) ≡ true) in
      let e = read_through C (open_reader C f).reader from count out in
      (Passes → e ≡ read_range C f from count out)
      × ((Passes → ⊥) → e ≡ ended (refused 4) out)

  -- The statements on a kept reader, together.
  pub record ReaderExactly (Keys : Type 0) : Type 0 where
    pub making_exactly : MakingExactly Keys
    pub makes_as_reads : MakesAsReads
    pub through_exactly : ThroughExactly
    pub rows_ascend : ReaderRowsAscend Keys
    pub rows_four_to_seven : ThroughRowsFourToSeven
    pub row_ten : ThroughRowTen
    pub kept_reads : KeptReads Keys
