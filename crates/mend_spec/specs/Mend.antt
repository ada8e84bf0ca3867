-- Mending a file in place: a range of its cleartext is replaced, its length unchanged, and the chunks that cover the range are sealed again, each with a
-- fresh nonce.
-- Assumes nothing.
use Rattle.std.specs.Prelude.{Bool, false, not, ◌&&◌, ◌||◌, List, [], ◌∷◌, ℕ, zero, suc, ◌+◌, ◌-◌, ◌*◌, ◌/◌, length, take, drop, ltb, eqb}
use Rattle.octets.specs.Bytes.{same, placed}
use Rattle.octets.specs.Rows.{done, refused, refused_at, Row, answer, End, ending}
use Rattle.frame.specs.Layout.{Sizes, chunk_size, chunks, covering, repeats, stored, clear_length, right_length, header_at, chunk_at}
use Rattle.frame.specs.Frame.{Codec, Choice, head_in, bad_chunk}

-- Where in chunk i the bytes from `from` on of the whole cleartext begin: at 0 if they begin before the chunk, behind its end if they begin there.
abbrev pub place_in : ℕ → ℕ → ℕ
place_in i from = from - chunk_size * i

-- How many of these bytes stand before chunk i.
abbrev pub before : ℕ → ℕ → ℕ
before i from = chunk_size * i - from

-- The cleartext p of chunk i after the bytes from `from` on of the whole cleartext are replaced by `new`: those that fall into the chunk are the new ones,
-- the rest is as it was.
unfoldable pub patched : ℕ → ℕ → List ℕ → List ℕ → List ℕ
patched i from new p = placed (take (length p - place_in i from) (drop (before i from) new)) (place_in i from) p

-- The stored chunk c, number i, sealed again with the nonce n after the bytes from `from` on are replaced by `new`; `seal i n p` is chunk i of the nonce n and
-- the cleartext p, and `plain i c` the cleartext of c.
unfoldable pub resealed : (ℕ → List ℕ → List ℕ → List ℕ) → (ℕ → List ℕ → List ℕ) → ℕ → List ℕ → ℕ → List ℕ → List ℕ → List ℕ
resealed seal plain from new i n c = seal i n (patched i from new (plain i c))

module _ (z : Sizes) where
  open z use {header, nonce}

  -- where chunk i of a file begins
  abbrev pub chunk_start : ℕ → ℕ
  chunk_start i = header + stored z * i

  -- the nonce of chunk i of a file: its first bytes
  abbrev pub nonce_in : List ℕ → ℕ → List ℕ
  nonce_in f i = take nonce (chunk_at z f i)

  -- x is the nonce of one of the n chunks of f from number i on
  unfoldable pub in_use : List ℕ → List ℕ → ℕ → ℕ → Bool
  in_use x f i zero = false
  in_use x f i (suc n) = same x (nonce_in f i) || in_use x f (suc i) n

  -- one of the k nonces that l begins with is the nonce of one of the first n chunks of f
  unfoldable pub any_in_use : ℕ → List ℕ → List ℕ → ℕ → Bool
  any_in_use zero l f n = false
  any_in_use (suc k) l f n = in_use (take nonce l) f 0 n || any_in_use k (drop nonce l) f n

  -- two of the nonces lent for a range are equal, or one is the nonce of a chunk now in f, covering or not
  unfoldable pub clashes : List ℕ → ℕ → ℕ → List ℕ → Bool
  clashes f from count nonces =
      repeats nonce (covering from count) nonces || any_in_use (covering from count) nonces f (chunks (clear_length z (length f)))

  -- f with the k chunks from number i on replaced, one after the other, each in its place: chunk c by `reseal i n c`, where n is the next nonce of the list
  unfoldable pub mended_from : (ℕ → List ℕ → List ℕ → List ℕ) → ℕ → ℕ → List ℕ → List ℕ → List ℕ
  mended_from reseal i zero nonces f = f
  mended_from reseal i (suc k) nonces f =
      mended_from reseal (suc i) k (drop nonce nonces) (placed (reseal i (take nonce nonces) (chunk_at z f i)) (chunk_start i) f)

  -- a choice with a range of its cleartext and the nonces of the covering chunks replaced
  abbrev pub mended_choice : Choice → ℕ → List ℕ → List ℕ → Choice
  mended_choice c from new nonces =
      record { head = c.head; nonces = placed nonces (nonce * (from / chunk_size)) c.nonces; clear = placed new from c.clear }

module _ (C : Codec) where
  open C use {sizes as z, keys_right, chunk_of, header_good, plain}

  -- f after the bytes of its cleartext from `from` on are replaced by `new`: the covering chunks are sealed again, in order, with the lent nonces
  unfoldable pub mended : List ℕ → ℕ → List ℕ → List ℕ → List ℕ
  mended f from new nonces =
      mended_from z (resealed (chunk_of (head_in C f)) (plain (head_in C f)) from new) (from / chunk_size) (covering from (length new)) nonces f

  -- the rows of the mend, in order: a master key's size, or not one nonce for each chunk that the range covers, which goes by from and count alone (1); the file's length (4);
  -- the range not inside (6); two lent nonces equal, or one a chunk's (8); the header not good (9); a covering chunk's tag wrong, with the lowest such number (10)
  unfoldable pub mend_rows : List ℕ → ℕ → List ℕ → List ℕ → List Row
  mend_rows f from new nonces =
      (not (keys_right && eqb (length nonces) (z.nonce * covering from (length new))), refused 1)
      ∷ (not (right_length z (length f)), refused 4)
      ∷ (ltb (clear_length z (length f)) (from + length new), refused 6)
      ∷ (clashes z f from (length new) nonces, refused 8)
      ∷ (not (header_good (header_at z f)), refused 9)
      ∷ (ltb (bad_chunk C f from (length new)) (from / chunk_size + covering from (length new)), refused_at 10 (bad_chunk C f from (length new)))
      ∷ []

  -- what replacing the bytes from `from` on of the cleartext of the file f by `new` ends in; the buffer is the file itself, and the length written is that of `new`
  unfoldable pub mend_file : List ℕ → ℕ → List ℕ → List ℕ → End
  mend_file f from new nonces = ending (answer (mend_rows f from new nonces) (done (length new ∷ []))) (mended f from new nonces) f
