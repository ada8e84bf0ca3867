-- What is stated of the mend, over any cipher combo; of a mend that succeeds, over one that meets `frame/Laws`.
-- Assumes nothing.
use Rattle.std.specs.Prelude.{◌≡◌, true, ◌↔◌, ◌⊎◌, List, [], ◌∷◌, ℕ, ◌+◌, ◌-◌, ◌*◌, ◌/◌, ◌≤◌, ◌<◌, length, take, drop, get_or}
use Rattle.octets.specs.Bytes.{Bytes, filled, placed}
use Rattle.octets.specs.Rows.{done, refused, refused_at, EndsBy, numbers, ended, ending, Succeeded}
use Rattle.frame.specs.Layout.{Sizes, clear_length, header_at, chunk_at, Inside, Covers, Alike}
use Rattle.frame.specs.Frame.{Codec, Choice, Fits, file_of, head_in, clear_of, read_range, open_file}
use Rattle.frame.specs.Rules.{piece, FileLength, chunk_count}
use Rattle.frame.specs.Statements.{Room, WrongTag}
use Rattle.mend_spec.specs.Mend.{patched, chunk_start, nonce_in, mended_choice, mended, mend_file}
use Rattle.mend_spec.specs.Rules.{Due, NonceForEach, FreshNonces, mend_rules}

-- A nonce is due exactly when a byte of the range lies in the chunk that it is for.
abbrev pub DueBytes : Type 0
DueBytes = (from count i : ℕ) → Due from count i ↔ ((p : ℕ) × (from ≤ p) × (p < from + count) × (p / 32768 ≡ from / 32768 + i))

-- And, of a range that is inside, exactly for the covering chunks.
abbrev pub DueCovers : Type 0
DueCovers = (z : Sizes) (l from count i : ℕ) → Inside z l from count → Due from count i ↔ Covers z l from count (from / 32768 + i)

-- Byte k of the cleartext of chunk i after a range is replaced: byte 32,768 * i + k of the whole. It is the new one if it lies in the range, and else the old one.
abbrev pub PatchedBytes : Type 0
PatchedBytes =
    (i from : ℕ) (new p : List ℕ)
    → (length (patched i from new p) ≡ length p)
    × ((k : ℕ) → k < length p → (32768 * i + k < from) ⊎ (from + length new ≤ 32768 * i + k) → get_or (patched i from new p) k 0 ≡ get_or p k 0)
    × ((k : ℕ) → k < length p → from ≤ 32768 * i + k → 32768 * i + k < from + length new → get_or (patched i from new p) k 0 ≡ get_or new (32768 * i + k - from) 0)

-- Each chunk's part of the cleartext with the range replaced is the chunk's cleartext with the range replaced.
abbrev pub PatchedParts : Type 0
PatchedParts =
    (i from : ℕ) (new clear : List ℕ) → from + length new ≤ length clear
    → patched i from new (piece 32768 clear i) ≡ piece 32768 (placed new from clear) i

module _ (C : Codec) where
  open C use {sizes as z, chunk_of, header_good, plain}

  -- The mend goes by its rules, exactly; a success returns the number of new bytes and leaves the file mended.
  abbrev pub MendRowsExactly : Type 0 → Type 0
  MendRowsExactly Keys =
      (f : List ℕ) (from : ℕ) (new nonces : List ℕ)
      → EndsBy (mend_rules C Keys f from new nonces) (length new ∷ []) (mended C f from new nonces) f (mend_file C f from new nonces)

  -- The numbers of the rules, written out: they ascend, so that with `MendRowsExactly` the lowest of the rows that apply is given.
  abbrev pub MendRowsAscend : Type 0 → Type 0
  MendRowsAscend Keys = (f : List ℕ) (from : ℕ) (new nonces : List ℕ) → numbers (mend_rules C Keys f from new nonces) ≡ 1 ∷ 4 ∷ 6 ∷ 8 ∷ 9 ∷ 10 ∷ []

  -- Row 10 is given with the number i exactly when the keys have their sizes, there is a nonce for each covering chunk, the range is inside, the nonces are fresh, the header is
  -- good, and i is the lowest covering chunk whose tag is wrong.
  abbrev pub MendRowTen : Type 0 → Type 0
  MendRowTen Keys =
      (f : List ℕ) (from i : ℕ) (new nonces : List ℕ)
      → (mend_file C f from new nonces ≡ ended (refused_at 10 i) f)
      ↔ (Keys × NonceForEach z from (length new) nonces × Inside z (length f) from (length new) × FreshNonces z f from (length new) nonces × (header_good (header_at z f) ≡ true)
      × WrongTag C f from (length new) i × ((j : ℕ) → WrongTag C f from (length new) j → i ≤ j))

  -- Row 1 in numbers, whatever the file: it is given exactly when the master keys have not their sizes, or the nonces are not one for each chunk from number from / 32,768 up to
  -- (from + count - 1) / 32,768 (none where count is 0).
  abbrev pub MendRowOne : Type 0 → Type 0
  MendRowOne Keys =
      (f : List ℕ) (from : ℕ) (new nonces : List ℕ)
      → (length new ≡ 0 → (mend_file C f from new nonces ≡ ended (refused 1) f) ↔ (Keys × (length nonces ≡ 0) → ⊥))
      × (0 < length new → (mend_file C f from new nonces ≡ ended (refused 1) f) ↔ (Keys × (length nonces ≡ z.nonce * ((from + length new - 1) / 32768 + 1 - from / 32768)) → ⊥))

  -- Rows 4, 6, 8 and 9, each with all that has to hold before it. That the nonces are fresh is written out, so that row 8 is given whatever the header and the tags are, and
  -- row 9 only for fresh nonces.
  abbrev pub MendRowsFourToNine : Type 0 → Type 0
  MendRowsFourToNine Keys =
      (f : List ℕ) (from : ℕ) (new nonces : List ℕ) →
      let e = mend_file C f from new nonces in
      let Counted = Keys × NonceForEach z from (length new) nonces in
      let Fresh =
      ((i j : ℕ) → i < j → Due from (length new) j → piece z.nonce nonces i ≡ piece z.nonce nonces j → ⊥)
      × ((i j : ℕ) → Due from (length new) i → j < chunk_count (clear_length z (length f)) → piece z.nonce nonces i ≡ take z.nonce (chunk_at z f j) → ⊥) in
      ((e ≡ ended (refused 4) f) ↔ (Counted × (FileLength z (length f) → ⊥)))
      × ((e ≡ ended (refused 6) f) ↔ (Counted × FileLength z (length f) × (from + length new ≤ clear_length z (length f) → ⊥)))
      × ((e ≡ ended (refused 8) f) ↔ (Counted × FileLength z (length f) × (from + length new ≤ clear_length z (length f)) × (Fresh → ⊥)))
      × ((e ≡ ended (refused 9) f) ↔ (Counted × FileLength z (length f) × (from + length new ≤ clear_length z (length f)) × Fresh × (header_good (header_at z f) ≡ true → ⊥)))

  -- An empty range changes nothing. It asks for no nonce and for no good chunk: it is done, with the length 0, exactly when the master keys have their sizes, no nonce
  -- is lent, the range is inside and the header is good.
  abbrev pub EmptyMend : Type 0 → Type 0
  EmptyMend Keys =
      (f : List ℕ) (from : ℕ) (nonces : List ℕ)
      → ((mend_file C f from [] nonces).buffer ≡ f)
      × ((mend_file C f from [] nonces ≡ ended (done (0 ∷ [])) f) ↔ (Keys × (length nonces ≡ 0) × Inside z (length f) from 0 × (header_good (header_at z f) ≡ true)))

  -- The mend of a file that is alike to that of a choice in length, header and covering chunks, whatever the other chunks hold, succeeds exactly when there is a nonce for each covering
  -- chunk, the range is inside, and the nonces differ from each other and from those of the file's chunks.
  abbrev pub MendsAlike : Type 0
  MendsAlike =
      (f : List ℕ) (c : Choice) (from : ℕ) (new nonces : List ℕ) → Fits z c → Alike z f (file_of C c) from (length new)
      → Succeeded (mend_file C f from new nonces)
      ↔ (NonceForEach z from (length new) nonces × (from + length new ≤ length c.clear)
      × ((i j : ℕ) → i < j → Due from (length new) j → piece z.nonce nonces i ≡ piece z.nonce nonces j → ⊥)
      × ((i j : ℕ) → Due from (length new) i → j < chunk_count (length c.clear) → piece z.nonce nonces i ≡ take z.nonce (chunk_at z f j) → ⊥))

  -- What is lent are byte strings, and the mend succeeds.
  pub record Mending (f : List ℕ) (from : ℕ) (new nonces : List ℕ) : Type 0 where
    pub file-bytes : Bytes f
    pub new_bytes : Bytes new
    pub nonces-bytes : Bytes nonces
    pub success : Succeeded (mend_file C f from new nonces)

  -- the file after a mend
  abbrev pub after : List ℕ → ℕ → List ℕ → List ℕ → List ℕ
  after f from new nonces = (mend_file C f from new nonces).buffer

  -- Each covering chunk is then what the writing rule gives for its lent nonce and its old cleartext with the range replaced, whatever the other chunks hold.
  abbrev pub MendedChunks : Type 0
  MendedChunks =
      (f : List ℕ) (from : ℕ) (new nonces : List ℕ) → Mending f from new nonces
      → (i : ℕ) → Covers z (length f) from (length new) i
      → chunk_at z (after f from new nonces) i
      ≡ chunk_of (head_in C f) i (piece z.nonce nonces (i - from / 32768)) (patched i from new (plain (head_in C f) i (chunk_at z f i)))

  -- The length stays, and so does every byte that lies in no covering chunk, those of the header among them.
  abbrev pub MendedRest : Type 0
  MendedRest =
      (f : List ℕ) (from : ℕ) (new nonces : List ℕ) → Mending f from new nonces
      → (length (after f from new nonces) ≡ length f)
      × ((p : ℕ) → ((i : ℕ) → Covers z (length f) from (length new) i → (p < chunk_start z i) ⊎ (chunk_start z (i + 1) ≤ p)) → get_or (after f from new nonces) p 0 ≡ get_or f p 0)

  -- What a mend leaves is a byte string, also where it is refused.
  abbrev pub MendBytes : Type 0
  MendBytes = (f : List ℕ) (from : ℕ) (new nonces : List ℕ) → Bytes f → Bytes new → Bytes nonces → Bytes (after f from new nonces)

  -- A mend of the file of a choice leaves the file of that choice with the range and the covering chunks' nonces replaced.
  abbrev pub MendedFile : Type 0
  MendedFile =
      (c : Choice) (from : ℕ) (new nonces : List ℕ) → Fits z c → Mending (file_of C c) from new nonces
      → Fits z (mended_choice z c from new nonces) × (after (file_of C c) from new nonces ≡ file_of C (mended_choice z c from new nonces))

  -- And where the file is only alike to that of a choice in length, header and covering chunks, it is then alike to that of the choice so replaced, whatever the other chunks hold.
  abbrev pub MendedAlike : Type 0
  MendedAlike =
      (f : List ℕ) (c : Choice) (from : ℕ) (new nonces : List ℕ) → Fits z c → Mending f from new nonces → Alike z f (file_of C c) from (length new)
      → Alike z (after f from new nonces) (file_of C (mended_choice z c from new nonces)) from (length new)

  -- With room, the file then opens exactly where the old one did, and to the old cleartext with the range replaced.
  abbrev pub MendedOpens : Type 0
  MendedOpens =
      (f : List ℕ) (from : ℕ) (new nonces out into : List ℕ) → Mending f from new nonces → Room z f out → Room z f into
      → (Succeeded (open_file C (after f from new nonces) into) ↔ Succeeded (open_file C f out))
      × (Succeeded (open_file C f out)
      → open_file C (after f from new nonces) into ≡ ended (done (clear_length z (length f) ∷ [])) (filled (placed new from (clear_of C f)) (clear_length z (length f)) into))

  -- Any read then has the answer that it had before, row and chunk number included; and a success gives the bytes of the old cleartext with the range replaced.
  abbrev pub MendedReads : Type 0
  MendedReads =
      (f : List ℕ) (from : ℕ) (new nonces : List ℕ) → Mending f from new nonces
      → (at count : ℕ) (out : List ℕ)
      → read_range C (after f from new nonces) at count out ≡ ending (read_range C f at count out).outcome (filled (drop at (placed new from (clear_of C f))) count out) out

  -- With room, the read of the mended range gives the new bytes.
  abbrev pub MendedReadsBack : Type 0
  MendedReadsBack =
      (f : List ℕ) (from : ℕ) (new nonces out : List ℕ) → Mending f from new nonces → length new ≤ length out
      → read_range C (after f from new nonces) from (length new) out ≡ ended (done (length new ∷ [])) (filled new (length new) out)

  -- A covering chunk then has a nonce that no chunk had before, and no other chunk has.
  abbrev pub MendedFresh : Type 0
  MendedFresh =
      (f : List ℕ) (from : ℕ) (new nonces : List ℕ) → Mending f from new nonces
      → (i j : ℕ) → Covers z (length f) from (length new) i → j < chunk_count (clear_length z (length f))
      → (nonce_in z (after f from new nonces) i ≡ nonce_in z f j → ⊥) × ((i ≡ j → ⊥) → nonce_in z (after f from new nonces) i ≡ nonce_in z (after f from new nonces) j → ⊥)

  -- The statements on files before and after a mend, together.
  pub record MendsExactly : Type 0 where
    pub mended-chunks : MendedChunks
    pub mended-rest : MendedRest
    pub mend_bytes : MendBytes
    pub mends_alike : MendsAlike
    pub mended-file : MendedFile
    pub mended_alike : MendedAlike
    pub mended-opens : MendedOpens
    pub mended_reads : MendedReads
    pub mended_reads_back : MendedReadsBack
    pub mended_fresh : MendedFresh
