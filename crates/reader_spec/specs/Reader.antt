-- A reader that is kept for a file, over any cipher combo: its making, which opens the header, and the reads through it, which do not.
-- Assumes nothing.
use Rattle.std.specs.Prelude.{not, List, [], ◌∷◌, ℕ, ◌+◌, ◌/◌, length, take, drop, replicate, ltb}
use Rattle.octets.specs.Bytes.{filled}
use Rattle.octets.specs.Rows.{Outcome, done, refused, refused_at, Row, answer, End, ending}
use Rattle.frame.specs.Layout.{chunk_size, covering, clear_length, right_length, header_at, lowest_bad, all_parts}
use Rattle.frame.specs.Frame.{Head, Codec, key_size, head_with, head_in}

-- What a reader holds: a file's bytes, and the content key that its header has. The MAC master key, which a combo may need, comes with the codec; `file_reader/Kept`
-- puts it into the reader.
pub record Reader : Type 0 where
  pub file : List ℕ
  pub key : List ℕ

abbrev pub reader_with : List ℕ → List ℕ → Reader
reader_with f k = record { file = f; key = k }

-- The reader of no bytes, a term of this library, which a refusal gives. No read depends on its content key, 32 zeros.
abbrev pub no_bytes : Reader
no_bytes = reader_with [] (replicate key_size 0)

-- What the making of a reader ends in: its answer, and a reader.
pub record Making : Type 0 where
  pub outcome : Outcome
  pub reader : Reader

abbrev pub made : Outcome → Reader → Making
made o r = record { outcome = o; reader = r }

-- A success gives the reader r, and a refusal the reader of no bytes.
abbrev pub reader_by : Outcome → Reader → Reader
reader_by (done lengths) r = r
reader_by (refused row) r = no_bytes
reader_by (refused_at row at) r = no_bytes

abbrev pub making_by : Outcome → Reader → Making
making_by o r = made o (reader_by o r)

module _ (C : Codec) where
  open C use {sizes as z, keys_right, header_good, good, plain}

  -- the reader of a byte string whose header is good
  unfoldable pub reader_of : List ℕ → Reader
  reader_of f = reader_with f (head_in C f).key

  -- the rows of the making, in order: a master key's size (1), the file's length (4), the header not good (9)
  unfoldable pub making_rows : List ℕ → List Row
  making_rows f =
      (not keys_right, refused 1)
      ∷ (not (right_length z (length f)), refused 4)
      ∷ (not (header_good (header_at z f)), refused 9)
      ∷ []

  -- what making a reader for f ends in; a success returns the length of the cleartext
  unfoldable pub open_reader : List ℕ → Making
  open_reader f = making_by (answer (making_rows f) (done (clear_length z (length f) ∷ []))) (reader_of f)

  -- What chunks go by: the header's nonce, which the file begins with, and the content key. The header itself is not looked at again, so the reserved
  -- bytes are left out.
  abbrev pub head_through : Reader → Head
  head_through r = head_with (take z.nonce r.file) [] r.key

  -- the cleartext: of the chunks, good or not, one after the other
  unfoldable pub clear_through : Reader → List ℕ
  clear_through r = all_parts z (plain (head_through r)) r.file

  -- the lowest covering chunk whose tag is wrong; the number after the last covering chunk where none is
  unfoldable pub bad_through : Reader → ℕ → ℕ → ℕ
  bad_through r from count = lowest_bad z (good (head_through r)) r.file (from / chunk_size) (covering from count)

  -- the rows of a read through a reader, in order, for a buffer of `room` bytes: the file's length (4), the range not inside (6), the buffer too
  -- short (7), a covering chunk's tag wrong, with the lowest such number (10)
  unfoldable pub through_rows : Reader → ℕ → ℕ → ℕ → List Row
  through_rows r from count room =
      (not (right_length z (length r.file)), refused 4)
      ∷ (ltb (clear_length z (length r.file)) (from + count), refused 6)
      ∷ (ltb room count, refused 7)
      ∷ (ltb (bad_through r from count) (from / chunk_size + covering from count), refused_at 10 (bad_through r from count))
      ∷ []

  -- what reading count bytes from `from` on through the reader r into the buffer `out` ends in; no reader is given back
  unfoldable pub read_through : Reader → ℕ → ℕ → List ℕ → End
  read_through r from count out =
      ending (answer (through_rows r from count (length out)) (done (count ∷ []))) (filled (drop from (clear_through r)) count out) out
