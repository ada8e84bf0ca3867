-- The calls on a single header and a single chunk, and on lengths alone.
-- Assumes nothing.
use Rattle.std.specs.Prelude.{not, ◌&&◌, List, [], ◌∷◌, ◌≡◌, ℕ, ◌+◌, ◌-◌, ◌≤◌, length, ltb, leb, eqb}
use Rattle.octets.specs.Bytes.{Bytes, filled}
use Rattle.octets.specs.Rows.{Outcome, done, refused, refused_at, Row, answer, End, ending}
use Rattle.frame.specs.Layout.{Sizes, chunk_size, limit, stored, file_length, clear_length, right_length}
use Rattle.frame.specs.Frame.{Head, Codec, key_size, head_right}

-- A nonce and the cleartext of a chunk, of the sizes that the rows 1 and 4 ask for.
pub record ChunkFits (z : Sizes) (n p : List ℕ) : Type 0 where
  pub nonce-size : length n ≡ z.nonce
  pub some : 1 ≤ length p
  pub clear-size : length p ≤ chunk_size
  pub nonce-bytes : Bytes n
  pub clear-bytes : Bytes p

-- The length of the file of a cleartext of n bytes, within the limit (row 4).
unfoldable pub file_length_of : Sizes → ℕ → Outcome
file_length_of z n = answer ((ltb limit n, refused 4) ∷ []) (done (file_length z n ∷ []))

-- The length of the cleartext of a file of l bytes, where a file can have that length (row 4).
unfoldable pub clear_length_of : Sizes → ℕ → Outcome
clear_length_of z l = answer ((not (right_length z l), refused 4) ∷ []) (done (clear_length z l ∷ []))

module _ (C : Codec) where
  open C use {sizes as z, keys_right, header_of, chunk_of, head_of, header_good, good, plain}
  open z use {header, nonce, overhead}

  -- writing a header, whose reserved bytes no caller lends: the size of a key or the nonce (1), the buffer too short (7)
  unfoldable pub write_header_rows : Head → ℕ → List Row
  write_header_rows h room =
      (not (keys_right && head_right z h), refused 1)
      ∷ (ltb room header, refused 7)
      ∷ []

  unfoldable pub write_header : Head → List ℕ → End
  write_header h out = ending (answer (write_header_rows h (length out)) (done (header ∷ []))) (filled (header_of h) header out) out

  -- opening the header b: its content key goes out, and a success returns that key's length and then the reserved bytes; a master key's size (1),
  -- the header's (4), the buffer too short (7), the header not good (9)
  unfoldable pub open_header_rows : List ℕ → ℕ → List Row
  open_header_rows b room =
      (not keys_right, refused 1)
      ∷ (not (eqb (length b) header), refused 4)
      ∷ (ltb room key_size, refused 7)
      ∷ (not (header_good b), refused 9)
      ∷ []

  unfoldable pub open_header : List ℕ → List ℕ → End
  open_header b out = ending (answer (open_header_rows b (length out)) (done (key_size ∷ (head_of b).reserved))) (filled (head_of b).key key_size out) out

  -- writing chunk i of the nonce n and the cleartext p: row 1 goes by the chunk's nonce, the header's nonce and the content key, and not by the
  -- master keys; no cleartext or more than a chunk holds (4), the buffer too short (7)
  unfoldable pub write_chunk_rows : Head → List ℕ → List ℕ → ℕ → List Row
  write_chunk_rows h n p room =
      (not (head_right z h && eqb (length n) nonce), refused 1)
      ∷ (not (leb 1 (length p) && leb (length p) chunk_size), refused 4)
      ∷ (ltb room (length p + overhead), refused 7)
      ∷ []

  unfoldable pub write_chunk : Head → ℕ → List ℕ → List ℕ → List ℕ → End
  write_chunk h i n p out =
      ending (answer (write_chunk_rows h n p (length out)) (done ((length p + overhead) ∷ []))) (filled (chunk_of h i n p) (length p + overhead) out) out

  -- opening the bytes c as chunk i: the size of the key or the nonce (1), of the chunk (4), the buffer too short (7), the tag wrong (10)
  unfoldable pub open_chunk_rows : Head → ℕ → List ℕ → ℕ → List Row
  open_chunk_rows h i c room =
      (not (head_right z h), refused 1)
      ∷ (not (leb (overhead + 1) (length c) && leb (length c) (stored z)), refused 4)
      ∷ (ltb room (length c - overhead), refused 7)
      ∷ (not (good h i c), refused_at 10 i)
      ∷ []

  unfoldable pub open_chunk : Head → ℕ → List ℕ → List ℕ → End
  open_chunk h i c out =
      ending (answer (open_chunk_rows h i c (length out)) (done ((length c - overhead) ∷ []))) (filled (plain h i c) (length c - overhead) out) out
