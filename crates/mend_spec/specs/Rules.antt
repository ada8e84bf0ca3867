-- What each row of the mend asks for, in words of sizes, limits and bytes; rows 9 and 10 ask for right tags, as the cipher combo tests them. `Statements` says that
-- the call goes by these rules.
-- Assumes nothing.
use Rattle.std.specs.Prelude.{◌≡◌, true, ◌↔◌, List, [], ◌∷◌, ℕ, ◌+◌, ◌-◌, ◌*◌, ◌/◌, ◌≤◌, ◌<◌, length, take}
use Rattle.octets.specs.Rows.{refused, refused_at, Rule}
use Rattle.frame.specs.Layout.{Sizes, clear_length, header_at, chunk_at}
use Rattle.frame.specs.Frame.{Codec, head_in, bad_chunk}
use Rattle.frame.specs.Rules.{piece, FileLength, chunk_count}

-- Nonce i, from 0 on, is due for the count bytes from `from` on: chunk from / 32,768 + i, which it is for, holds a byte of the range. The file's length has no part in it.
abbrev pub Due : ℕ → ℕ → ℕ → Type 0
Due from count i = (0 < count) × (from / 32768 + i ≤ (from + count - 1) / 32768)

module _ (z : Sizes) where
  -- There are just as many nonces, each of its size, as are due.
  abbrev pub NonceForEach : ℕ → ℕ → List ℕ → Type 0
  NonceForEach from count nonces = (k : ℕ) × (length nonces ≡ z.nonce * k) × ((i : ℕ) → (i < k) ↔ Due from count i)

  -- No two of the lent nonces are equal, and none is the nonce of a chunk of f, covering or not, good or not, the last and shorter one too. The header's nonce does not count, nor
  -- whether f itself repeats a nonce.
  abbrev pub FreshNonces : List ℕ → ℕ → ℕ → List ℕ → Type 0
  FreshNonces f from count nonces =
      ((i j : ℕ) → i < j → Due from count j → piece z.nonce nonces i ≡ piece z.nonce nonces j → ⊥)
      × ((i j : ℕ) → Due from count i → j < chunk_count (clear_length z (length f)) → piece z.nonce nonces i ≡ take z.nonce (chunk_at z f j) → ⊥)

-- `Keys` says that the master keys have their sizes. Replacing the bytes of the cleartext of f from `from` on by `new`: row 10 asks for the tag of every covering chunk, and of none
-- where `new` is empty; `MendRowTen` fixes its number.
abbrev pub mend_rules : (C : Codec) → Type 0 → List ℕ → ℕ → List ℕ → List ℕ → List Rule
mend_rules C Keys f from new nonces =
    let z = C.sizes in
    let count = length new in
    (Keys × NonceForEach z from count nonces, refused 1)
    ∷ (FileLength z (length f), refused 4)
    ∷ (from + count ≤ clear_length z (length f), refused 6)
    ∷ (FreshNonces z f from count nonces, refused 8)
    ∷ (C.header_good (header_at z f) ≡ true, refused 9)
    ∷ (
      (i : ℕ) → 0 < count → from / 32768 ≤ i → i ≤ (from + count - 1) / 32768 → C.good (head_in C f) i (chunk_at z f i) ≡ true,
      refused_at 10 (bad_chunk C f from count),
    )
    ∷ []
