-- For code: the rows before 10, the steps of the search for a nonce in use, and the steps of the loop that mends.
-- Assumes nothing.
use mathlib.Core.Path.{◌≡◌, sym, ap, ap₂, ◌∙◌}
use mathlib.Core.Bool.{true, false, not, ◌&&◌, ◌||◌}
use mathlib.Core.Logic.{◌⊎◌, inl, inr, ⊎_elim}
use mathlib.Core.List.{List}
use Prim.Native.Nat.{ℕ, suc, ◌+◌, ◌-◌, ◌*◌, ◌≤◌, ◌<◌, min}
use native.Mathlib.Omega.{arith}
use lib.ListN.{length, take, drop, length-drop}
use lib.Dec.{eqb}
use borrow.Author.Tests.{lt-ltb, le-ltb, eq-eqb, ne_eqb}
use Rattle.octets.specs.Bytes.{same, placed}
use Rattle.octets.specs.Rows.{Outcome, refused, answer}
use Rattle.octets.proofs.Lists.{le_or_lt}
use Rattle.octets.proofs.Equality.{true_and}
use Rattle.octets.proofs.Rows.{first_answers}
use Rattle.frame.specs.Layout.{Sizes, chunk_size, covering, clear_length, right_length, header_at, chunk_at}
use Rattle.frame.specs.Frame.{Codec}
use Rattle.frame.specs.Rules.{piece}
use Rattle.frame.proofs.Filling.{take_min}
use Rattle.frame.proofs.Steps.{behind, more, none}
use Rattle.mend_spec.specs.Mend.{patched, chunk_start, nonce_in, in_use, any_in_use, clashes, resealed, mended_from, mend_rows}

-- ---- rows

module _ (C : Codec) (f : List ℕ) (from : ℕ) (new nonces : List ℕ) (last : Outcome) where
  open C use {sizes as z, keys_right, header_good}

  abbrev nonce_count : ℕ
  nonce_count = z.nonce * covering from (length new)

  module _ (k : keys_right ≡ true) where
    pub row_1 : (length nonces ≡ nonce_count → ⊥) → answer (mend_rows C f from new nonces) last ≡ refused 1
    unfolding mend_rows
    row_1 e = first_answers (mend_rows C f from new nonces) last 0 (rw (k, ne_eqb (length nonces) nonce_count e))

    module _ (c : length nonces ≡ nonce_count) where
      sized : not (keys_right && eqb (length nonces) nonce_count) ≡ false
      sized = ap not (true_and keys_right (eqb (length nonces) nonce_count) k (eq-eqb (length nonces) nonce_count c))

      pub row_4 : right_length z (length f) ≡ false → answer (mend_rows C f from new nonces) last ≡ refused 4
      unfolding mend_rows
      row_4 e = first_answers (mend_rows C f from new nonces) last 1 (sized, ap not e)

      module _ (r : right_length z (length f) ≡ true) where
        pub row_6 : clear_length z (length f) < from + length new → answer (mend_rows C f from new nonces) last ≡ refused 6
        unfolding mend_rows
        row_6 h = first_answers (mend_rows C f from new nonces) last 2 (sized, (ap not r, lt-ltb (clear_length z (length f)) (from + length new) h))

        module _ (w : from + length new ≤ clear_length z (length f)) where
          pub row_8 : clashes z f from (length new) nonces ≡ true → answer (mend_rows C f from new nonces) last ≡ refused 8
          unfolding mend_rows
          row_8 e = first_answers (mend_rows C f from new nonces) last 3 (sized, (ap not r, (le-ltb (clear_length z (length f)) (from + length new) w, e)))

          pub row_9 : clashes z f from (length new) nonces ≡ false → header_good (header_at z f) ≡ false → answer (mend_rows C f from new nonces) last ≡ refused 9
          unfolding mend_rows
          row_9 g e = first_answers (mend_rows C f from new nonces) last 4 (sized, (ap not r, (le-ltb (clear_length z (length f)) (from + length new) w, (g, ap not e))))

-- ---- nonces in use

module _ (z : Sizes) (f : List ℕ) where
  open z use {nonce}

  pub in_use-next : (x : List ℕ) (i e : ℕ) → i < e → in_use z x f i (e - i) ≡ (same x (nonce_in z f i) || in_use z x f (i + 1) (e - (i + 1)))
  unfolding in_use
  in_use-next x i e h =
      let t : suc i ≡ i + 1 = omega arith in
      rw (more e i h, t)

  pub in_use_none : (x : List ℕ) (i e : ℕ) → e ≤ i → in_use z x f i (e - i) ≡ false
  unfolding in_use
  in_use_none x i e h = rw (none e i h)

  pub any_next : (l : List ℕ) (n i e : ℕ) → i < e
      → any_in_use z (e - i) (drop (nonce * i) l) f n ≡ (in_use z (take nonce (drop (nonce * i) l)) f 0 n || any_in_use z (e - (i + 1)) (drop (nonce * (i + 1)) l) f n)
  unfolding any_in_use
  any_next l n i e h = rw (more e i h, behind nonce i l)

  pub any_none : (l : List ℕ) (n i e : ℕ) → e ≤ i → any_in_use z (e - i) l f n ≡ false
  unfolding any_in_use
  any_none l n i e h = rw (none e i h)

-- ---- a chunk is sealed again in place

-- the cleartext of chunk i, where d bytes of `new` stand before the chunk, and its part begins at the place lo of the chunk
pub patched-at : (i from : ℕ) (new p : List ℕ) (d lo w : ℕ) → from + d ≡ chunk_size * i + lo → (d ≡ 0) ⊎ (lo ≡ 0) → w ≡ min (length p - lo) (length new - d)
    → patched i from new p ≡ placed (take w (drop d new)) lo p
unfolding patched
patched-at i from new p d lo w e c q =
    let a : from - chunk_size * i ≡ lo = ⊎_elim (λ (x : d ≡ 0). omega (arith, e, x)) (λ (x : lo ≡ 0). omega (arith, e, x)) c in
    let b : chunk_size * i - from ≡ d = ⊎_elim (λ (x : d ≡ 0). omega (arith, e, x)) (λ (x : lo ≡ 0). omega (arith, e, x)) c in
    let g : take (length p - lo) (drop d new) ≡ take w (drop d new) =
    sym (take_min (length p - lo) (drop d new)) ∙ ap (λ (y : ℕ). take y (drop d new)) (ap (min (length p - lo)) (length-drop d new) ∙ sym q) in
    rw (a, b, g)

-- how much of `new` goes to a chunk: what the range has left, or what the chunk has room for
pub part_length : (n from count i d lo w l : ℕ) → from + count ≤ n → from + d ≡ chunk_size * i + lo → l ≡ min chunk_size (n - chunk_size * i) → lo ≤ chunk_size → d ≤ count
    → w ≡ min (chunk_size - lo) (count - d) → w ≡ min (l - lo) (count - d)
part_length n from count i d lo w l h e q a b v =
    ⊎_elim (λ (x : l ≡ chunk_size). v ∙ ap (λ (y : ℕ). min (y - lo) (count - d)) (sym x))
    (λ (x : (l ≡ n - chunk_size * i) × (n - chunk_size * i ≤ chunk_size)).
    let y = x.0 in
    let u = x.1 in
    let r : count - d ≤ l - lo = omega (arith, h, e, y, b) in
    let t : count - d ≤ chunk_size - lo = omega (arith, r, y, u) in
    v ∙ least (chunk_size - lo) (count - d) t ∙ sym (least (l - lo) (count - d) r))
    (which (n - chunk_size * i) q)
  where
    least : (x y : ℕ) → y ≤ x → min x y ≡ y
    least x y g = omega arith

    which : (y : ℕ) → l ≡ min chunk_size y → (l ≡ chunk_size) ⊎ ((l ≡ y) × (y ≤ chunk_size))
    which y g =
        ⊎_elim (λ (x : chunk_size ≤ y). inl (omega (arith, g, x)))
        (λ (x : y < chunk_size). inr (omega (arith, g, x), omega (arith, x)))
        (le_or_lt chunk_size y)

-- the chunk sealed again, in those places
pub resealed-at : (seal : ℕ → List ℕ → List ℕ → List ℕ) (plain : ℕ → List ℕ → List ℕ) (from : ℕ) (new : List ℕ) (i : ℕ) (n c : List ℕ) (d lo w : ℕ)
    → from + d ≡ chunk_size * i + lo → (d ≡ 0) ⊎ (lo ≡ 0) → w ≡ min (length (plain i c) - lo) (length new - d)
    → resealed seal plain from new i n c ≡ seal i n (placed (take w (drop d new)) lo (plain i c))
unfolding resealed
resealed-at seal plain from new i n c d lo w hd hl hw = ap (seal i n) (patched-at i from new (plain i c) d lo w hd hl hw)

-- ---- the loop over the covering chunks, from number s to e; i is the next

module _ (z : Sizes) (reseal : ℕ → List ℕ → List ℕ → List ℕ) (nonces : List ℕ) where
  open z use {nonce}

  pub mended-next : (f : List ℕ) (s i e : ℕ) → s ≤ i → i < e
      → mended_from z reseal i (e - i) (drop (nonce * (i - s)) nonces) f
      ≡ mended_from z reseal (i + 1) (e - (i + 1)) (drop (nonce * (i + 1 - s)) nonces) (placed (reseal i (piece nonce nonces (i - s)) (chunk_at z f i)) (chunk_start z i) f)
  unfolding mended_from
  mended-next f s i e a b =
      let u : suc i ≡ i + 1 = omega arith in
      let g : i - s + 1 ≡ i + 1 - s = omega (arith, a) in
      let v = behind nonce (i - s) nonces ∙ ap (λ (y : ℕ). drop (nonce * y) nonces) g in
      ap (λ (y : ℕ). mended_from z reseal i y (drop (nonce * (i - s)) nonces) f) (more e i b)
      ∙ ap₂ (λ (y : ℕ) (l : List ℕ). mended_from z reseal y (e - (i + 1)) l (placed (reseal i (piece nonce nonces (i - s)) (chunk_at z f i)) (chunk_start z i) f)) u v

  pub mended-end : (f l : List ℕ) (i e : ℕ) → e ≤ i → mended_from z reseal i (e - i) l f ≡ f
  unfolding mended_from
  mended-end f l i e a = rw (none e i a)
