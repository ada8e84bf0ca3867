-- What each row of each call asks for, in words of sizes, limits and bytes; rows 9 and 10 ask for right tags, as the cipher combo tests them.
-- `Statements` and `SingleStatements` say that the calls go by these rules.
-- Assumes nothing.
use Rattle.std.specs.Prelude.{◌≡◌, true, List, [], ◌∷◌, ℕ, ◌+◌, ◌-◌, ◌*◌, ◌/◌, ◌≤◌, ◌<◌, length, take, drop}
use Rattle.octets.specs.Rows.{refused, refused_at, Rule}
use Rattle.frame.specs.Layout.{Sizes, file_length, clear_length, header_at, chunk_at}
use Rattle.frame.specs.Frame.{Head, Codec, Choice, head_in, bad_chunk}

-- Both master keys have 32 bytes.
abbrev pub KeySizes : List ℕ → List ℕ → Type 0
KeySizes enc mac = (length enc ≡ 32) × (length mac ≡ 32)

-- The nonce and the content key of a header have their sizes.
abbrev pub HeadSizes : Sizes → Head → Type 0
HeadSizes z h = (length h.nonce ≡ z.nonce) × (length h.key ≡ 32)

-- Piece i, from 0 on, of the pieces of w bytes that l consists of.
abbrev pub piece : ℕ → List ℕ → ℕ → List ℕ
piece w l i = take w (drop (w * i) l)

-- No two of the k pieces of w bytes that l begins with are equal.
abbrev pub Differ : ℕ → ℕ → List ℕ → Type 0
Differ w k l = (i j : ℕ) → i < j → j < k → piece w l i ≡ piece w l j → ⊥

-- The limit: 16,777,216 bytes of cleartext, which 512 chunks hold.
abbrev pub WithinLimit : ℕ → Type 0
WithinLimit n = n ≤ 16777216

-- The lengths that a file can have: those of the files of cleartexts within the limit.
abbrev pub FileLength : Sizes → ℕ → Type 0
FileLength z l = (n : ℕ) × WithinLimit n × (l ≡ file_length z n)

-- How many chunks n bytes of cleartext have, within the limit or not: n / 32,768 rounded up.
abbrev pub chunk_count : ℕ → ℕ
chunk_count n = (n + 32767) / 32768

-- The chunk nonces of a choice, one for each chunk of its cleartext, all differ.
abbrev pub NoncesDiffer : Sizes → Choice → Type 0
NoncesDiffer z c = Differ z.nonce (chunk_count (length c.clear)) c.nonces

-- the calls on lengths
abbrev pub file_length_rules : ℕ → List Rule
file_length_rules n = (WithinLimit n, refused 4) ∷ []

abbrev pub clear_length_rules : Sizes → ℕ → List Rule
clear_length_rules z l = (FileLength z l, refused 4) ∷ []

-- `Keys` says that the master keys have their sizes (`KeySizes`, under any keys); the buffer has `room` bytes.
module _ (C : Codec) (Keys : Type 0) where
  open C use {sizes as z, header_good, good}
  open z use {header, nonce}

  -- writing a header
  abbrev pub write_header_rules : Head → ℕ → List Rule
  write_header_rules h room =
      (Keys × HeadSizes z h, refused 1)
      ∷ (header ≤ room, refused 7)
      ∷ []

  -- opening the header b
  abbrev pub open_header_rules : List ℕ → ℕ → List Rule
  open_header_rules b room =
      (Keys, refused 1)
      ∷ (length b ≡ header, refused 4)
      ∷ (32 ≤ room, refused 7)
      ∷ (header_good b ≡ true, refused 9)
      ∷ []

  -- writing a file
  abbrev pub write_file_rules : Choice → ℕ → List Rule
  write_file_rules c room =
      (Keys × HeadSizes z c.head × (length c.nonces ≡ nonce * chunk_count (length c.clear)), refused 1)
      ∷ (WithinLimit (length c.clear), refused 4)
      ∷ (file_length z (length c.clear) ≤ room, refused 7)
      ∷ (NoncesDiffer z c, refused 8)
      ∷ []

  -- opening the file f: row 10 asks for the tag of every chunk; its number is that of the range read, by `OpeningIsReading`
  abbrev pub open_file_rules : List ℕ → ℕ → List Rule
  open_file_rules f room =
      let n = clear_length z (length f) in
      (Keys, refused 1)
      ∷ (FileLength z (length f), refused 4)
      ∷ (n ≤ room, refused 7)
      ∷ (header_good (header_at z f) ≡ true, refused 9)
      ∷ ((i : ℕ) → i < chunk_count n → good (head_in C f) i (chunk_at z f i) ≡ true, refused_at 10 (bad_chunk C f 0 n))
      ∷ []

  -- reading count bytes of f from `from` on: row 10 asks for the tag of every covering chunk, and of none where count is 0; `RowTen` fixes its
  -- number
  abbrev pub read_range_rules : List ℕ → ℕ → ℕ → ℕ → List Rule
  read_range_rules f from count room =
      (Keys, refused 1)
      ∷ (FileLength z (length f), refused 4)
      ∷ (from + count ≤ clear_length z (length f), refused 6)
      ∷ (count ≤ room, refused 7)
      ∷ (header_good (header_at z f) ≡ true, refused 9)
      ∷ (
        (i : ℕ) → 0 < count → from / 32768 ≤ i → i ≤ (from + count - 1) / 32768 → good (head_in C f) i (chunk_at z f i) ≡ true,
        refused_at 10 (bad_chunk C f from count),
      )
      ∷ []

-- The calls on a chunk ask nothing of the master keys.
module _ (C : Codec) where
  open C use {sizes as z, good}
  open z use {nonce, overhead}

  -- writing a chunk of the nonce n and the cleartext p
  abbrev pub write_chunk_rules : Head → List ℕ → List ℕ → ℕ → List Rule
  write_chunk_rules h n p room =
      (HeadSizes z h × (length n ≡ nonce), refused 1)
      ∷ ((1 ≤ length p) × (length p ≤ 32768), refused 4)
      ∷ (length p + overhead ≤ room, refused 7)
      ∷ []

  -- opening the bytes c as chunk i
  abbrev pub open_chunk_rules : Head → ℕ → List ℕ → ℕ → List Rule
  open_chunk_rules h i c room =
      (HeadSizes z h, refused 1)
      ∷ ((overhead + 1 ≤ length c) × (length c ≤ 32768 + overhead), refused 4)
      ∷ (length c - overhead ≤ room, refused 7)
      ∷ (good h i c ≡ true, refused_at 10 i)
      ∷ []
