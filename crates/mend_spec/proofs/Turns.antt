-- For code: a turn of the loop that seals the covering chunks again, in any chunk cipher.
-- Assumes nothing.
use mathlib.Core.Path.{◌≡◌, sym, ap, ◌∙◌}
use mathlib.Core.Logic.{◌⊎◌, inl, inr, ⊎_elim}
use mathlib.Core.List.{List}
use Prim.Native.Nat.{ℕ, ◌+◌, ◌-◌, ◌*◌, ◌/◌, ◌≤◌, ◌<◌, min}
use native.Mathlib.Omega.{arith}
use lib.ListN.{length, take, drop}
use Rattle.octets.specs.Bytes.{placed}
use Rattle.octets.proofs.Lists.{le_or_lt}
use Rattle.frame.specs.Layout.{Sizes, chunk_size, covering, file_length, chunk_at}
use Rattle.frame.specs.Rules.{piece}
use Rattle.frame.proofs.Pieces.{covers_all}
use Rattle.mend_spec.specs.Mend.{chunk_start, resealed, mended_from}
use Rattle.mend_spec.proofs.Chunks.{start_in, put_length, put_other}
use Rattle.mend_spec.proofs.Steps.{resealed-at, part_length, mended-next}

-- where a covering chunk stands
pub covering-place : (n from count i : ℕ) → from + count ≤ n → from / chunk_size ≤ i → i < from / chunk_size + covering from count
    → (chunk_size * i < n) × (from < chunk_size * i + chunk_size) × (chunk_size * i < from + count) × (0 < count)
covering-place n from count i h a b =
    let v = covers_all from count i a b in
    let p = v.0 in
    let q = v.1 in
    (omega (arith, h, p, q), omega (arith, a), omega (arith, p, q), p)

-- where the new bytes go: d of them stand before the chunk, and the others begin at its place lo
pub places : (from count i lo d : ℕ) → 0 < count → from < chunk_size * i + chunk_size → chunk_size * i < from + count → lo ≡ from - chunk_size * i → d ≡ chunk_size * i - from
    → (lo < chunk_size) × (d < count) × (from + d ≡ chunk_size * i + lo) × ((d ≡ 0) ⊎ (lo ≡ 0))
places from count i lo d c a b e g = (
  omega (arith, a, e),
  omega (arith, c, b, g),
  omega (arith, e, g),
  ⊎_elim (λ (x : from ≤ chunk_size * i). inr (omega (arith, x, e))) (λ (x : chunk_size * i < from). inl (omega (arith, x, g))) (le_or_lt from (chunk_size * i)),
)

-- their part, of w bytes, lies in the chunk
pub part_in : (n from count i lo d w : ℕ) → from + count ≤ n → from + d ≡ chunk_size * i + lo → lo + w ≤ chunk_size → w ≤ count - d → d < count → lo + w ≤ min chunk_size (n - chunk_size * i)
part_in n from count i lo d w h e a b c = omega (arith, h, e, a, b, c)

module _ (z : Sizes) (seal : ℕ → List ℕ → List ℕ → List ℕ) (plain : ℕ → List ℕ → List ℕ) (from : ℕ) (new nonces : List ℕ) where
  abbrev reseal : ℕ → List ℕ → List ℕ → List ℕ
  reseal = resealed seal plain from new

  -- chunk i of f became c, which has its size: w of the new bytes, from the d-th on, were placed at lo
  module _ (f c : List ℕ) (n s i e d lo w : ℕ) (shaped : length f ≡ file_length z n) (has : chunk_size * i < n) (low : s ≤ i) (high : i < e) (at : from + d ≡ chunk_size * i + lo)
      (first : (d ≡ 0) ⊎ (lo ≡ 0)) (within : from + length new ≤ n) (inner : lo < chunk_size) (some : d < length new) (wide : w ≡ min (chunk_size - lo) (length new - d))
      (long : length (plain i (chunk_at z f i)) ≡ min chunk_size (n - chunk_size * i))
      (sealed : c ≡ seal i (piece z.nonce nonces (i - s)) (placed (take w (drop d new)) lo (plain i (chunk_at z f i)))) (size : length c ≡ length (chunk_at z f i)) where
    mended : mended_from z reseal i (e - i) (drop (z.nonce * (i - s)) nonces) f
        ≡ mended_from z reseal (i + 1) (e - (i + 1)) (drop (z.nonce * (i + 1 - s)) nonces) (placed c (chunk_start z i) f)
    mended =
        let v = part_length n from (length new) i d lo w (length (plain i (chunk_at z f i))) within at long (omega (arith, inner)) (omega (arith, some)) wide in
        mended-next z reseal nonces f s i e low high
        ∙ ap (λ (x : List ℕ). mended_from z reseal (i + 1) (e - (i + 1)) (drop (z.nonce * (i + 1 - s)) nonces) (placed x (chunk_start z i) f))
        (resealed-at seal plain from new i (piece z.nonce nonces (i - s)) (chunk_at z f i) d lo w at first v ∙ sym sealed)

    -- with c in its place, the length and the later chunks stay, and what remains to be done is done from there
    pub turn : (length (placed c (chunk_start z i) f) ≡ length f) × ((j : ℕ) → i < j → chunk_at z (placed c (chunk_start z i) f) j ≡ chunk_at z f j)
        × (mended_from z reseal i (e - i) (drop (z.nonce * (i - s)) nonces) f
        ≡ mended_from z reseal (i + 1) (e - (i + 1)) (drop (z.nonce * (i + 1 - s)) nonces) (placed c (chunk_start z i) f))
    turn =
        let start = start_in z f n i shaped has in
        (put_length z f c i start size, λ j h. put_other z f c i start size j (inr h), mended)
