-- What the theorems say of a single header and a single chunk, and of lengths.
-- Assumes nothing.
use Rattle.std.specs.Prelude.{◌≡◌, ◌↔◌, List, [], ◌∷◌, ℕ, ◌+◌, ◌-◌, ◌≤◌, length, take}
use Rattle.octets.specs.Bytes.{Bytes, filled}
use Rattle.octets.specs.Rows.{done, EndsBy, AnswersBy, Ascending, ended, Succeeded}
use Rattle.frame.specs.Layout.{Sizes, stored, file_length, clear_length}
use Rattle.frame.specs.Frame.{Head, Codec, key_size, head_with, own_head, own_choice, EightBytes, HeadFits, file_of}
use Rattle.frame.specs.Single.{ChunkFits, file_length_of, clear_length_of, write_header, open_header, write_chunk, open_chunk}
use Rattle.frame.specs.Rules.{file_length_rules, clear_length_rules, write_header_rules, open_header_rules, write_chunk_rules, open_chunk_rules}

-- The calls on lengths go by their rules, exactly.
abbrev pub LengthsExactly : Sizes → Type 0
LengthsExactly z =
    ((n : ℕ) → AnswersBy (file_length_rules n) (file_length z n ∷ []) (file_length_of z n))
    × ((l : ℕ) → AnswersBy (clear_length_rules z l) (clear_length z l ∷ []) (clear_length_of z l))

-- The numbers of their rules ascend.
abbrev pub LengthsAscend : Sizes → Type 0
LengthsAscend z = ((n : ℕ) → Ascending (file_length_rules n)) × ((l : ℕ) → Ascending (clear_length_rules z l))

-- The two calls on lengths are each other's inverse: one gives l for n exactly when the other gives n for l.
abbrev pub LengthsInverse : Sizes → Type 0
LengthsInverse z = (n l : ℕ) → (file_length_of z n ≡ done (l ∷ [])) ↔ (clear_length_of z l ≡ done (n ∷ []))

module _ (C : Codec) where
  open C use {sizes as z, header_of, chunk_of, head_of, plain}

  -- The calls on a header or a chunk go by their rules, exactly; a success leaves what is written or opened at the front of the buffer.
  abbrev pub SingleRowsExactly : Type 0 → Type 0
  SingleRowsExactly Keys =
      ((h : Head) (out : List ℕ) → EndsBy (write_header_rules C Keys h (length out)) (z.header ∷ []) (filled (header_of h) z.header out) out (write_header C h out))
      × ((b out : List ℕ) → EndsBy (open_header_rules C Keys b (length out)) (key_size ∷ (head_of b).reserved) (filled (head_of b).key key_size out) out (open_header C b out))
      × ((h : Head) (i : ℕ) (n p out : List ℕ)
      → EndsBy (write_chunk_rules C h n p (length out)) ((length p + z.overhead) ∷ []) (filled (chunk_of h i n p) (length p + z.overhead) out) out (write_chunk C h i n p out))
      × ((h : Head) (i : ℕ) (c out : List ℕ)
      → EndsBy (open_chunk_rules C h i c (length out)) ((length c - z.overhead) ∷ []) (filled (plain h i c) (length c - z.overhead) out) out (open_chunk C h i c out))

  -- The numbers of the rules ascend, so that with `SingleRowsExactly` the lowest of the rows that apply is given.
  abbrev pub SingleAscend : Type 0 → Type 0
  SingleAscend Keys =
      ((h : Head) (room : ℕ) → Ascending (write_header_rules C Keys h room))
      × ((b : List ℕ) (room : ℕ) → Ascending (open_header_rules C Keys b room))
      × ((h : Head) (n p : List ℕ) (room : ℕ) → Ascending (write_chunk_rules C h n p room))
      × ((h : Head) (i : ℕ) (c : List ℕ) (room : ℕ) → Ascending (open_chunk_rules C h i c room))

  -- The header that is written for byte strings is a byte string, and so is the chunk.
  abbrev pub SingleBytes : Type 0
  SingleBytes =
      ((h : Head) → HeadFits z h → Bytes (header_of h))
      × ((h : Head) (i : ℕ) (n p : List ℕ) → HeadFits z h → Bytes n → Bytes p → Bytes (chunk_of h i n p))

  -- Lent byte strings, and for any eight reserved bytes, the header writer succeeds exactly when the keys and the nonce have their sizes and there is
  -- room.
  abbrev pub HeaderWritesExactly : Type 0 → Type 0
  HeaderWritesExactly Keys =
      (h : Head) (out : List ℕ) → Bytes h.nonce → EightBytes h.reserved → Bytes h.key
      → Succeeded (write_header C h out) ↔ (Keys × HeadFits z h × (z.header ≤ length out))

  -- And then it writes the header, which opens to the content key and returns the reserved bytes that went in. (That the keys have their sizes is
  -- asked for where this is cited.)
  abbrev pub HeaderWrittenOpens : Type 0
  HeaderWrittenOpens =
      (h : Head) (out into : List ℕ) → HeadFits z h → z.header ≤ length out → key_size ≤ length into
      → (write_header C h out ≡ ended (done (length (header_of h) ∷ [])) (filled (header_of h) (length (header_of h)) out))
      × (open_header C (header_of h) into ≡ ended (done (key_size ∷ h.reserved)) (filled h.key key_size into))

  -- The header of a nonce, any eight reserved bytes and a content key opens to that content key and returns those eight bytes.
  abbrev pub AnyReserved : Type 0
  AnyReserved =
      (n r k into : List ℕ) → length n ≡ z.nonce → length r ≡ 8 → length k ≡ 32 → Bytes n → Bytes r → Bytes k → 32 ≤ length into
      → open_header C (header_of (head_with n r k)) into ≡ ended (done (32 ∷ r)) (filled k 32 into)

  -- The reserved bytes that our writers write are eight bytes FF: opening their header returns these, and their file begins with that header.
  abbrev pub WritesFF : Type 0
  WritesFF =
      (n k : List ℕ) → length n ≡ z.nonce → length k ≡ 32 → Bytes n → Bytes k
      → ((into : List ℕ) → 32 ≤ length into
      → open_header C (header_of (own_head n k)) into ≡ ended (done (32 ∷ 255 ∷ 255 ∷ 255 ∷ 255 ∷ 255 ∷ 255 ∷ 255 ∷ 255 ∷ [])) (filled k 32 into))
      × ((ns p : List ℕ) → take z.header (file_of C (own_choice n k ns p)) ≡ header_of (own_head n k))

  -- The reserved bytes of its header do not matter to a chunk, when it is written and when it is opened.
  abbrev pub ChunksIgnoreReserved : Type 0
  ChunksIgnoreReserved =
      (n r r' k : List ℕ) (i : ℕ) (out : List ℕ)
      → ((m p : List ℕ) → write_chunk C (head_with n r k) i m p out ≡ write_chunk C (head_with n r' k) i m p out)
      × ((c : List ℕ) → open_chunk C (head_with n r k) i c out ≡ open_chunk C (head_with n r' k) i c out)

  -- Given room, which is asked for only where the size is right, a byte string opens as a header exactly when it is the header of some nonce, eight
  -- reserved bytes and content key; and then to that content key, and it returns those eight bytes.
  abbrev pub HeaderOpensExactly : Type 0
  HeaderOpensExactly =
      (b out : List ℕ) → Bytes b → (length b ≡ z.header → key_size ≤ length out)
      → (Succeeded (open_header C b out) ↔ ((h : Head) × HeadFits z h × (header_of h ≡ b)))
      × ((h : Head) → HeadFits z h → header_of h ≡ b → open_header C b out ≡ ended (done (key_size ∷ h.reserved)) (filled h.key key_size out))

  -- Lent byte strings, and for any eight reserved bytes, the chunk writer succeeds exactly when the content key, the nonces and the cleartext have their
  -- sizes and there is room.
  abbrev pub ChunkWritesExactly : Type 0
  ChunkWritesExactly =
      (h : Head) (i : ℕ) (n p out : List ℕ) → Bytes h.nonce → EightBytes h.reserved → Bytes h.key → Bytes n → Bytes p
      → Succeeded (write_chunk C h i n p out) ↔ (HeadFits z h × ChunkFits z n p × (length p + z.overhead ≤ length out))

  -- And then it writes the chunk, which opens under its number to the cleartext that went in.
  abbrev pub ChunkWrittenOpens : Type 0
  ChunkWrittenOpens =
      (h : Head) (i : ℕ) (n p out into : List ℕ) → HeadFits z h → ChunkFits z n p → length p + z.overhead ≤ length out → length p ≤ length into
      → (write_chunk C h i n p out ≡ ended (done (length (chunk_of h i n p) ∷ [])) (filled (chunk_of h i n p) (length (chunk_of h i n p)) out))
      × (open_chunk C h i (chunk_of h i n p) into ≡ ended (done (length p ∷ [])) (filled p (length p) into))

  -- Given room, which is asked for only where it is no longer than a chunk, a byte string opens as chunk i exactly when it is chunk i of some nonce and cleartext; and then to that cleartext.
  abbrev pub ChunkOpensExactly : Type 0
  ChunkOpensExactly =
      (h : Head) (i : ℕ) (c out : List ℕ) → HeadFits z h → Bytes c → (length c ≤ stored z → length c - z.overhead ≤ length out)
      → (Succeeded (open_chunk C h i c out) ↔ ((n : List ℕ) × (p : List ℕ) × ChunkFits z n p × (chunk_of h i n p ≡ c)))
      × ((n p : List ℕ) → ChunkFits z n p → chunk_of h i n p ≡ c → open_chunk C h i c out ≡ ended (done (length p ∷ [])) (filled p (length p) out))
