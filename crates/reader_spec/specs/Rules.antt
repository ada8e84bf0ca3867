-- What each row of a reader's making and of a read through it asks for, in words of sizes, limits and bytes; rows 9 and 10 ask for right tags, as the cipher
-- combo tests them. `Statements` says that the calls go by these rules.
-- Assumes nothing.
use Rattle.std.specs.Prelude.{◌≡◌, true, List, [], ◌∷◌, ℕ, ◌+◌, ◌-◌, ◌/◌, ◌≤◌, ◌<◌, length, take}
use Rattle.octets.specs.Rows.{refused, refused_at, Rule}
use Rattle.frame.specs.Layout.{clear_length, chunk_at}
use Rattle.frame.specs.Frame.{Codec, head_with}
use Rattle.frame.specs.Rules.{FileLength}
use Rattle.reader_spec.specs.Reader.{Reader, bad_through}

module _ (C : Codec) where
  open C use {sizes as z, header_good, good}

  -- making a reader for f; `Keys` says that the master keys have their sizes
  abbrev pub making_rules : Type 0 → List ℕ → List Rule
  making_rules Keys f =
      (Keys, refused 1)
      ∷ (FileLength z (length f), refused 4)
      ∷ (header_good (take z.header f) ≡ true, refused 9)
      ∷ []

  -- Chunk i of the reader's file is good, under the header's nonce, which the file begins with, and the reader's content key.
  abbrev pub GoodThrough : Reader → ℕ → Type 0
  GoodThrough r i = good (head_with (take z.nonce r.file) [] r.key) i (chunk_at z r.file i) ≡ true

  -- reading count bytes from `from` on through r: row 10 asks for the tag of every covering chunk, and of none where count is 0; `ThroughRowTen` fixes its
  -- number
  abbrev pub through_rules : Reader → ℕ → ℕ → ℕ → List Rule
  through_rules r from count room =
      (FileLength z (length r.file), refused 4)
      ∷ (from + count ≤ clear_length z (length r.file), refused 6)
      ∷ (count ≤ room, refused 7)
      ∷ (
        (i : ℕ) → 0 < count → from / 32768 ≤ i → i ≤ (from + count - 1) / 32768 → GoodThrough r i,
        refused_at 10 (bad_through C r from count),
      )
      ∷ []
