-- A file in which chunks are replaced: what changes, and what stays.
-- Assumes nothing.
use mathlib.Core.Path.{◌≡◌, refl, sym, ap, ap₂, ◌∙◌, subst}
use mathlib.Core.Logic.{◌⊎◌, inl, inr, ⊎_elim}
use mathlib.Core.List.{List, ◌++◌, append-nil}
use Prim.Native.Nat.{ℕ, zero, suc, ◌+◌, ◌-◌, ◌*◌, ◌≤◌, ◌<◌, min}
use native.Mathlib.Nat.{mul-zero, mul-suc, mul-le-mul_left}
use native.Mathlib.Omega.{arith}
use lib.ListN.{length, take, drop, length-take, length-drop}
use lib.Seq.{length-take-le, take_all, take_at, take-take, drop-drop}
use Rattle.octets.specs.Bytes.{Bytes, placed}
use Rattle.octets.proofs.Lists.{le_or_lt, drop_all}
use Rattle.octets.proofs.Bytes.{below_take, below_drop}
use Rattle.frame.specs.Layout.{Sizes, chunk_size, chunks, stored, file_length, chunk_at}
use Rattle.frame.specs.Frame.{Head, HeadFits, Codec}
use Rattle.frame.specs.Laws.{ChunkLaws}
use Rattle.frame.specs.Rules.{piece}
use Rattle.frame.proofs.Lengths.{stored-mul}
use Rattle.frame.proofs.Pieces.{chunk_length, bytes_chunk}
use Rattle.frame.proofs.Filling.{part-take}
use Rattle.mend_spec.specs.Mend.{patched, chunk_start, resealed, mended_from}
use Rattle.octets.proofs.Placed.{placed-length, take_ahead, drop-behind, drop-part, below_placed}
use Rattle.mend_spec.proofs.Patches.{patched-length, patched-bytes_below}

module _ (z : Sizes) where
  open z use {header, nonce, overhead}

  -- a chunk ends where the next one begins, or before
  pub start-next : (i j : ℕ) → i < j → chunk_start z i + stored z ≤ chunk_start z j
  start-next i j h =
      let m = mul-suc (stored z) i in
      let k = mul-le-mul_left {m = suc i} {n = j} (stored z) h in
      omega arith

  pub start_mono : (i j : ℕ) → i ≤ j → chunk_start z i ≤ chunk_start z j
  start_mono i j h = let k = mul-le-mul_left {m = i} {n = j} (stored z) h in omega arith

  -- a chunk of a file begins in the file
  pub start_in : (f : List ℕ) (n i : ℕ) → length f ≡ file_length z n → chunk_size * i < n → chunk_start z i ≤ length f
  start_in f n i hl hi =
      let s = stored-mul z i in
      let k = mul-le-mul_left {m = i} {n = chunks n} overhead (omega arith) in
      omega arith

  pub chunk_size_lem : (f : List ℕ) (i : ℕ) → length (chunk_at z f i) ≡ min (stored z) (length f - chunk_start z i)
  unfolding chunk_at
  chunk_size_lem f i = length-take (stored z) (drop (chunk_start z i) f) ∙ ap (min (stored z)) (length-drop (chunk_start z i) f)

  -- ---- one chunk is replaced by another of its size

  module _ (f c : List ℕ) (i : ℕ) (low : chunk_start z i ≤ length f) (size : length c ≡ length (chunk_at z f i)) where
    fits : chunk_start z i + length c ≤ length f
    fits = let e = size ∙ chunk_size_lem f i in omega arith

    pub put_length : length (placed c (chunk_start z i) f) ≡ length f
    put_length = placed-length c f (chunk_start z i) fits

    pub put_this : chunk_at z (placed c (chunk_start z i) f) i ≡ c
    unfolding chunk_at
    put_this =
        let e = size ∙ chunk_size_lem f i in
        ap (take (stored z)) (drop-part c f (chunk_start z i) low)
        ∙ ⊎_elim (λ (h : stored z ≤ length f - chunk_start z i). take_at c (drop (chunk_start z i + length c) f) (stored z) (omega (arith, e, h)))
        (λ (h : length f - chunk_start z i < stored z).
        let l : length c ≡ length f - chunk_start z i = omega (arith, e, h) in
        ap (λ (x : List ℕ). take (stored z) (c ++ x)) (drop_all (chunk_start z i + length c) f (omega (arith, l)))
        ∙ ap (take (stored z)) (append-nil c)
        ∙ take_all (stored z) c (omega (arith, l, h)))
        (le_or_lt (stored z) (length f - chunk_start z i))

    pub put_ahead : (n : ℕ) → n ≤ chunk_start z i → take n (placed c (chunk_start z i) f) ≡ take n f
    put_ahead n h =
        sym (take-take n (chunk_start z i) (placed c (chunk_start z i) f) h)
        ∙ ap (take n) (take_ahead c f (chunk_start z i) low)
        ∙ take-take n (chunk_start z i) f h

    small : length c ≤ stored z
    small = let e = size ∙ chunk_size_lem f i in omega arith

    pub put_behind : (n : ℕ) → chunk_start z i + stored z ≤ n → drop n (placed c (chunk_start z i) f) ≡ drop n f
    put_behind n h = let s = small in drop-behind c f (chunk_start z i) low n (omega (arith, s, h))

    pub put_other : (j : ℕ) → (j < i) ⊎ (i < j) → chunk_at z (placed c (chunk_start z i) f) j ≡ chunk_at z f j
    unfolding chunk_at
    put_other j (inl h) =
        let g = placed c (chunk_start z i) f in
        let k = start-next j i h in
        sym (part-take (stored z) (chunk_start z j) (chunk_start z i) g k)
        ∙ ap (λ (x : List ℕ). take (stored z) (drop (chunk_start z j) x)) (take_ahead c f (chunk_start z i) low)
        ∙ part-take (stored z) (chunk_start z j) (chunk_start z i) f k
    put_other j (inr h) = ap (take (stored z)) (put_behind (chunk_start z j) (start-next i j h))

-- ---- chunks are sealed again, one after the other

module _ (C : Codec) (𝓛 : ChunkLaws C) (h : Head) (ok : HeadFits C.sizes h) (from : ℕ) (new : List ℕ) where
  open C use {sizes as z, plain, chunk_of}

  abbrev reseal : ℕ → List ℕ → List ℕ → List ℕ
  reseal = resealed (chunk_of h) (plain h) from new

  reseal_length : (i : ℕ) (n c : List ℕ) → length n ≡ z.nonce → z.overhead ≤ length c → length (reseal i n c) ≡ length c
  unfolding resealed
  reseal_length i n c l o =
      let a = 𝓛.chunk_size_lem h i n (patched i from new (plain h i c)) ok l in
      let b = patched-length i from new (plain h i c) in
      let d = 𝓛.plain_size h i c in
      omega arith

  reseal_bytes : Bytes new → (i : ℕ) (n c : List ℕ) → Bytes n → Bytes c → Bytes (reseal i n c)
  unfolding resealed
  reseal_bytes bn i n c b d = 𝓛.chunk_bytes h i n (patched i from new (plain h i c)) ok b (patched-bytes_below i from new (plain h i c) bn (𝓛.plain-bytes h i c ok d))

  -- the file after chunk i is sealed again with the first nonce
  abbrev step : List ℕ → ℕ → List ℕ → List ℕ
  step f i nonces = placed (reseal i (take z.nonce nonces) (chunk_at z f i)) (chunk_start z i) f

  -- one nonce is taken off the list
  first-nonce : (k : ℕ) (nonces : List ℕ) → length nonces ≡ z.nonce * suc k → length (take z.nonce nonces) ≡ z.nonce
  first-nonce k nonces e = let m = mul-suc z.nonce k in length-take-le z.nonce nonces (omega arith)

  more_nonces : (k : ℕ) (nonces : List ℕ) → length nonces ≡ z.nonce * suc k → length (drop z.nonce nonces) ≡ z.nonce * k
  more_nonces k nonces e = let m = mul-suc z.nonce k in length-drop z.nonce nonces ∙ omega arith

  module _ (n : ℕ) where
    module _ (f : List ℕ) (i k : ℕ) (nonces : List ℕ) (hl : length f ≡ file_length z n) (hi : chunk_size * i < n) (hn : length nonces ≡ z.nonce * suc k) where
      low : chunk_start z i ≤ length f
      low = start_in z f n i hl hi

      size : length (reseal i (take z.nonce nonces) (chunk_at z f i)) ≡ length (chunk_at z f i)
      size = reseal_length i (take z.nonce nonces) (chunk_at z f i) (first-nonce k nonces hn) (let e = chunk_length z f n i hl hi in omega arith)

      step-length : length (step f i nonces) ≡ file_length z n
      step-length = put_length z f (reseal i (take z.nonce nonces) (chunk_at z f i)) i low size ∙ hl

      step_this : chunk_at z (step f i nonces) i ≡ reseal i (take z.nonce nonces) (chunk_at z f i)
      step_this = put_this z f (reseal i (take z.nonce nonces) (chunk_at z f i)) i low size

      step_other : (j : ℕ) → (j < i) ⊎ (i < j) → chunk_at z (step f i nonces) j ≡ chunk_at z f j
      step_other = put_other z f (reseal i (take z.nonce nonces) (chunk_at z f i)) i low size

      step_ahead : (m : ℕ) → m ≤ chunk_start z i → take m (step f i nonces) ≡ take m f
      step_ahead = put_ahead z f (reseal i (take z.nonce nonces) (chunk_at z f i)) i low size

      step-behind : (m : ℕ) → chunk_start z i + stored z ≤ m → drop m (step f i nonces) ≡ drop m f
      step-behind = put_behind z f (reseal i (take z.nonce nonces) (chunk_at z f i)) i low size

    -- the chunks from i on are chunks of the file
    abbrev Has : ℕ → ℕ → Type 0
    Has i k = (j : ℕ) → i ≤ j → j < i + k → chunk_size * j < n

    here : (i k : ℕ) → Has i (suc k) → chunk_size * i < n
    here i k hs = hs i (omega arith) (omega arith)

    later : (i k : ℕ) → Has i (suc k) → Has (suc i) k
    later i k hs j a b = hs j (omega arith) (omega arith)

    pub mended-length : (k : ℕ) (f : List ℕ) (i : ℕ) (nonces : List ℕ) → length f ≡ file_length z n → Has i k → length nonces ≡ z.nonce * k
        → length (mended_from z reseal i k nonces f) ≡ file_length z n
    unfolding mended_from
    mended-length zero f i nonces hl hs hn = hl
    mended-length (suc k) f i nonces hl hs hn =
        mended-length k (step f i nonces) (suc i) (drop z.nonce nonces) (step-length f i k nonces hl (here i k hs) hn) (later i k hs) (more_nonces k nonces hn)

    pub mended_ahead : (k : ℕ) (f : List ℕ) (i : ℕ) (nonces : List ℕ) → length f ≡ file_length z n → Has i k → length nonces ≡ z.nonce * k
        → (m : ℕ) → m ≤ chunk_start z i → take m (mended_from z reseal i k nonces f) ≡ take m f
    unfolding mended_from
    mended_ahead zero f i nonces hl hs hn m a = refl
    mended_ahead (suc k) f i nonces hl hs hn m a =
        let s = start_mono z i (suc i) (omega arith) in
        mended_ahead k (step f i nonces) (suc i) (drop z.nonce nonces) (step-length f i k nonces hl (here i k hs) hn) (later i k hs) (more_nonces k nonces hn) m (omega (arith, s, a))
        ∙ step_ahead f i k nonces hl (here i k hs) hn m a

    pub mended-behind : (k : ℕ) (f : List ℕ) (i : ℕ) (nonces : List ℕ) → length f ≡ file_length z n → Has i k → length nonces ≡ z.nonce * k
        → (m : ℕ) → chunk_start z (i + k) ≤ m → drop m (mended_from z reseal i k nonces f) ≡ drop m f
    unfolding mended_from
    mended-behind zero f i nonces hl hs hn m a = refl
    mended-behind (suc k) f i nonces hl hs hn m a =
        let e : i + suc k ≡ suc i + k = omega arith in
        let s = start-next z i (i + suc k) (omega arith) in
        mended-behind k (step f i nonces) (suc i) (drop z.nonce nonces) (step-length f i k nonces hl (here i k hs) hn) (later i k hs) (more_nonces k nonces hn) m (subst (λ (x : ℕ). chunk_start z x ≤ m) e a)
        ∙ step-behind f i k nonces hl (here i k hs) hn m (omega (arith, s, a))

    pub mended-other : (k : ℕ) (f : List ℕ) (i : ℕ) (nonces : List ℕ) → length f ≡ file_length z n → Has i k → length nonces ≡ z.nonce * k
        → (j : ℕ) → (j < i) ⊎ (i + k ≤ j) → chunk_at z (mended_from z reseal i k nonces f) j ≡ chunk_at z f j
    unfolding mended_from
    mended-other zero f i nonces hl hs hn j a = refl
    mended-other (suc k) f i nonces hl hs hn j a =
        mended-other k (step f i nonces) (suc i) (drop z.nonce nonces) (step-length f i k nonces hl (here i k hs) hn) (later i k hs) (more_nonces k nonces hn) j
        (⊎_elim (λ (x : j < i). inl (omega arith)) (λ (x : i + suc k ≤ j). inr (omega arith)) a)
        ∙ step_other f i k nonces hl (here i k hs) hn j (⊎_elim (λ (x : j < i). inl x) (λ (x : i + suc k ≤ j). inr (omega arith)) a)

    pub mended_chunk : (k : ℕ) (f : List ℕ) (i : ℕ) (nonces : List ℕ) → length f ≡ file_length z n → Has i k → length nonces ≡ z.nonce * k
        → (j : ℕ) → i ≤ j → j < i + k → chunk_at z (mended_from z reseal i k nonces f) j ≡ reseal j (piece z.nonce nonces (j - i)) (chunk_at z f j)
    unfolding mended_from
    mended_chunk zero f i nonces hl hs hn j a b = absurd (omega arith)
    mended_chunk (suc k) f i nonces hl hs hn j a b =
        let hl' = step-length f i k nonces hl (here i k hs) hn in
        let ns = drop z.nonce nonces in
        let hn' = more_nonces k nonces hn in
        ⊎_elim (λ (x : j ≤ i).
        let e : i ≡ j = omega arith in
        let g : 0 ≡ j - i = omega arith in
        let q : take z.nonce nonces ≡ piece z.nonce nonces (j - i) =
        ap (λ (y : ℕ). take z.nonce (drop y nonces)) (sym (mul-zero z.nonce)) ∙ ap (piece z.nonce nonces) g in
        mended-other k (step f i nonces) (suc i) ns hl' (later i k hs) hn' j (inl (omega arith))
        ∙ ap (chunk_at z (step f i nonces)) (sym e)
        ∙ step_this f i k nonces hl (here i k hs) hn
        ∙ ap₂ (λ (y : ℕ) (w : List ℕ). reseal y w (chunk_at z f y)) e q)
        (λ (x : i < j).
        let m = mul-suc z.nonce (j - suc i) in
        let g : suc (j - suc i) ≡ j - i = omega arith in
        let v : z.nonce + z.nonce * (j - suc i) ≡ z.nonce * suc (j - suc i) = omega (arith, m) in
        let q : piece z.nonce ns (j - suc i) ≡ piece z.nonce nonces (j - i) =
        ap (take z.nonce) (drop-drop (z.nonce * (j - suc i)) z.nonce nonces ∙ ap (λ (y : ℕ). drop y nonces) v) ∙ ap (piece z.nonce nonces) g in
        mended_chunk k (step f i nonces) (suc i) ns hl' (later i k hs) hn' j x (omega arith)
        ∙ ap₂ (λ (w c : List ℕ). reseal j w c) q (step_other f i k nonces hl (here i k hs) hn j (inr x)))
        (le_or_lt j i)

  pub mended-bytes : Bytes new → (k : ℕ) (f : List ℕ) (i : ℕ) (nonces : List ℕ) → Bytes f → Bytes nonces → Bytes (mended_from z reseal i k nonces f)
  unfolding mended_from
  mended-bytes bn zero f i nonces bf bs = bf
  mended-bytes bn (suc k) f i nonces bf bs =
      mended-bytes bn k (step f i nonces) (suc i) (drop z.nonce nonces)
      (below_placed (reseal i (take z.nonce nonces) (chunk_at z f i)) f (chunk_start z i) (reseal_bytes bn i (take z.nonce nonces) (chunk_at z f i) (below_take z.nonce bs) (bytes_chunk z f i bf)) bf)
      (below_drop z.nonce bs)
