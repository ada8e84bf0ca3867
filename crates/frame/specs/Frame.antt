-- The vault file over any header and chunk cipher: the writing rules, and what the file writer, the file opener and the range read end in.
-- Assumes nothing.
use Rattle.std.specs.Prelude.{◌≡◌, Bool, not, ◌&&◌, List, [], ◌∷◌, ◌++◌, ℕ, ◌+◌, ◌*◌, ◌/◌, ◌≤◌, length, drop, replicate, ltb, eqb}
use Rattle.octets.specs.Bytes.{Bytes, filled}
use Rattle.octets.specs.Rows.{done, refused, refused_at, Row, answer, End, ending}
use Rattle.frame.specs.Layout.{Sizes, chunk_size, limit, chunks, covering, repeats, file_length, clear_length, right_length, header_at, lowest_bad, all_parts, chunks_from}

-- What a header says: its own nonce, the reserved bytes, and the content key.
pub record Head : Type 0 where
  pub nonce : List ℕ
  pub reserved : List ℕ
  pub key : List ℕ

-- A cipher combo under its master keys. What it tests is called the tag, also where it is a MAC.
pub record Codec : Type 0 where
  pub sizes : Sizes
  -- the master keys have the size that row 1 asks for
  pub keys_right : Bool
  -- the writing rules: the header, and chunk i of a nonce and a cleartext
  pub header_of : Head → List ℕ
  pub chunk_of : Head → ℕ → List ℕ → List ℕ → List ℕ
  -- the reading rules: what a header says and whether it is good; whether chunk i is good, and its cleartext
  pub head_of : List ℕ → Head
  pub header_good : List ℕ → Bool
  pub good : Head → ℕ → List ℕ → Bool
  pub plain : Head → ℕ → List ℕ → List ℕ

-- A choice, a term of this library: all that determines a file. The nonces of the chunks are one list, in order.
pub record Choice : Type 0 where
  pub head : Head
  pub nonces : List ℕ
  pub clear : List ℕ

abbrev pub key_size : ℕ
key_size = 32

abbrev pub reserved_size : ℕ
reserved_size = 8

-- The payload of a header, which is enciphered: the bytes that the format reserves for later use, and behind them the content key.
abbrev pub payload_size : ℕ
payload_size = reserved_size + key_size

abbrev pub payload_of : Head → List ℕ
payload_of h = h.reserved ++ h.key

-- The nonce n, the reserved bytes r and the content key k.
abbrev pub head_with : List ℕ → List ℕ → List ℕ → Head
head_with n r k = record { nonce = n; reserved = r; key = k }

-- The writers of this library write eight bytes FF. What the header says that they write for the nonce n and the content key k; and the choice
-- of their file writer, which is also lent the chunks' nonces ns and the cleartext p.
abbrev pub own_head : List ℕ → List ℕ → Head
own_head n k = head_with n (replicate reserved_size 0xff) k

abbrev pub own_choice : List ℕ → List ℕ → List ℕ → List ℕ → Choice
own_choice n k ns p = record { head = own_head n k; nonces = ns; clear = p }

-- The format leaves the reserved bytes open: any eight.
abbrev pub EightBytes : List ℕ → Type 0
EightBytes r = (length r ≡ reserved_size) × Bytes r

-- A header nonce and a content key of the sizes that row 1 asks for, and any eight reserved bytes.
pub record HeadFits (z : Sizes) (h : Head) : Type 0 where
  pub nonce-size : length h.nonce ≡ z.nonce
  pub key-size : length h.key ≡ key_size
  pub nonce-bytes : Bytes h.nonce
  pub key-bytes : Bytes h.key
  pub reserved-fits : EightBytes h.reserved

-- A choice within the limits: a nonce for each chunk, and no more cleartext than 512 chunks hold.
pub record Fits (z : Sizes) (c : Choice) : Type 0 where
  pub head-fits : HeadFits z c.head
  pub nonces-size : length c.nonces ≡ z.nonce * chunks (length c.clear)
  pub clear-size : length c.clear ≤ limit
  pub nonces-bytes : Bytes c.nonces
  pub clear-bytes : Bytes c.clear

-- The test for the sizes of the master keys enc and mac: both, also where one is not used.
unfoldable pub master_keys_right : List ℕ → List ℕ → Bool
master_keys_right enc mac = eqb (length enc) key_size && eqb (length mac) key_size

-- The test for the sizes of a header nonce and a content key.
abbrev pub head_right : Sizes → Head → Bool
head_right z h = eqb (length h.nonce) z.nonce && eqb (length h.key) key_size

module _ (C : Codec) where
  open C use {sizes as z, keys_right, header_of, chunk_of, head_of, header_good, good, plain}

  -- the file of a choice, a term of this library: the bytes that the writing rules give for it, the header in front
  unfoldable pub file_of : Choice → List ℕ
  file_of c = header_of c.head ++ chunks_from z (chunk_of c.head) 0 (chunks (length c.clear)) c.nonces c.clear

  -- what the header of a byte string says
  unfoldable pub head_in : List ℕ → Head
  head_in f = head_of (header_at z f)

  -- the cleartext of a byte string: of its chunks, good or not, one after the other
  unfoldable pub clear_of : List ℕ → List ℕ
  clear_of f = all_parts z (plain (head_in f)) f

  -- the lowest covering chunk whose tag is wrong; the number after the last covering chunk where none is
  unfoldable pub bad_chunk : List ℕ → ℕ → ℕ → ℕ
  bad_chunk f from count = lowest_bad z (good (head_in f)) f (from / chunk_size) (covering from count)

  -- the rows of the range read, in order, for a buffer of `room` bytes: a master key's size (1), the file's length (4), the range not inside (6),
  -- the buffer too short (7), the header not good (9), a covering chunk's tag wrong, with the lowest such number (10)
  unfoldable pub range_rows : List ℕ → ℕ → ℕ → ℕ → List Row
  range_rows f from count room =
      (not keys_right, refused 1)
      ∷ (not (right_length z (length f)), refused 4)
      ∷ (ltb (clear_length z (length f)) (from + count), refused 6)
      ∷ (ltb room count, refused 7)
      ∷ (not (header_good (header_at z f)), refused 9)
      ∷ (ltb (bad_chunk f from count) (from / chunk_size + covering from count), refused_at 10 (bad_chunk f from count))
      ∷ []

  -- what reading count bytes from `from` on into the buffer `out` ends in
  unfoldable pub read_range : List ℕ → ℕ → ℕ → List ℕ → End
  read_range f from count out =
      ending (answer (range_rows f from count (length out)) (done (count ∷ []))) (filled (drop from (clear_of f)) count out) out

  -- the rows of the file opener, as those of the range read of the whole cleartext, to which row 6 never applies
  unfoldable pub open_rows : List ℕ → ℕ → List Row
  open_rows f room =
      (not keys_right, refused 1)
      ∷ (not (right_length z (length f)), refused 4)
      ∷ (ltb room (clear_length z (length f)), refused 7)
      ∷ (not (header_good (header_at z f)), refused 9)
      ∷ (ltb (bad_chunk f 0 (clear_length z (length f))) (chunks (clear_length z (length f))), refused_at 10 (bad_chunk f 0 (clear_length z (length f))))
      ∷ []

  -- what opening the file f into the buffer `out` ends in; a byte string opens, as this library says, where that is a success
  unfoldable pub open_file : List ℕ → List ℕ → End
  open_file f out =
      ending (answer (open_rows f (length out)) (done (clear_length z (length f) ∷ []))) (filled (clear_of f) (clear_length z (length f)) out) out

  -- the rows of the file writer: the size of a key or nonce, or not a nonce for each chunk (1), too much cleartext (4), the buffer too short (7),
  -- two equal chunk nonces (8)
  unfoldable pub write_rows : Choice → ℕ → List Row
  write_rows c room =
      (not (keys_right && (head_right z c.head && eqb (length c.nonces) (z.nonce * chunks (length c.clear)))), refused 1)
      ∷ (ltb limit (length c.clear), refused 4)
      ∷ (ltb room (file_length z (length c.clear)), refused 7)
      ∷ (repeats z.nonce (chunks (length c.clear)) c.nonces, refused 8)
      ∷ []

  -- what writing a file into the buffer `out` ends in
  unfoldable pub write_file : Choice → List ℕ → End
  write_file c out =
      ending (answer (write_rows c (length out)) (done (file_length z (length c.clear) ∷ []))) (filled (file_of c) (file_length z (length c.clear)) out) out
