-- The cleartext of a chunk after a range of the whole is replaced.
-- Assumes nothing.
use mathlib.Core.Path.{◌≡◌, refl, sym, ap, ◌∙◌, subst}
use mathlib.Core.Logic.{◌⊎◌, inl, inr, ⊎_elim}
use mathlib.Core.List.{List, ◌++◌}
use Prim.Native.Nat.{ℕ, ◌+◌, ◌-◌, ◌*◌, ◌≤◌, ◌<◌, min}
use native.Mathlib.Omega.{arith}
use lib.ListN.{length, take, drop, get_or, length-append, length-take, length-drop}
use lib.Seq.{get_or-take, get_or-drop, ext_get_or}
use Rattle.octets.specs.Bytes.{placed, Bytes}
use Rattle.octets.proofs.Lists.{le_or_lt}
use Rattle.octets.proofs.Bytes.{below_take, below_drop}
use Rattle.frame.specs.Layout.{chunk_size}
use Rattle.mend_spec.specs.Mend.{patched}
use Rattle.mend_spec.specs.Statements.{PatchedBytes, PatchedParts}
use Rattle.octets.proofs.Placed.{placed-length, get_d_ahead, get_d_within, get_d_behind, below_placed}

-- the lengths of the three parts
sum : (lp at ln skip m : ℕ) → m ≡ min (lp - at) (ln - skip) → min at lp + m + (lp - (at + m)) ≡ lp
sum lp at ln skip m e = omega arith

-- a place of the range that is in the chunk is in the part
inner : (lp ln from x k at skip : ℕ) → at ≡ from - x → skip ≡ x - from → k < lp → from ≤ x + k → x + k < from + ln → k - at < min (lp - at) (ln - skip)
inner lp ln from x k at skip ea es l a b =
    ⊎_elim (λ (h : from ≤ x).
    let e : at ≡ 0 = omega arith in
    let g : skip + from ≡ x = omega arith in
    below lp ln k at skip l (omega (arith, e)) (omega (arith, e, g, b)))
    (λ (h : x < from).
    let e : at + x ≡ from = omega arith in
    let g : skip ≡ 0 = omega arith in
    below lp ln k at skip l (omega (arith, e, a)) (omega (arith, e, g, b)))
    (le_or_lt from x)
  where
    below : (lp ln k at skip : ℕ) → k < lp → at ≤ k → k + skip < at + ln → k - at < min (lp - at) (ln - skip)
    below lp ln k at skip l h g = omega arith

less : (k n at : ℕ) → at ≤ k → k < n → k - at < n - at
less k n at h l = omega arith

module _ (i from : ℕ) (new p : List ℕ) where
  -- where the range begins in the chunk, and how much of the new bytes stand before the chunk
  at : ℕ
  at = from - chunk_size * i

  skip : ℕ
  skip = chunk_size * i - from

  part : List ℕ
  part = take (length p - at) (drop skip new)

  part_length : length part ≡ min (length p - at) (length new - skip)
  unfolding part
  part_length = length-take (length p - at) (drop skip new) ∙ ap (min (length p - at)) (length-drop skip new)

  pub patched-length : length (patched i from new p) ≡ length p
  unfolding patched part at skip
  patched-length =
      length-append (take at p ++ part) (drop (at + length part) p)
      ∙ ap (λ (n : ℕ). n + length (drop (at + length part) p)) (length-append (take at p) part ∙ ap (λ (n : ℕ). n + length part) (length-take at p))
      ∙ ap (λ (n : ℕ). min at (length p) + length part + n) (length-drop (at + length part) p)
      ∙ sum (length p) at (length new) skip (length part) part_length

  pub patched_new : (k : ℕ) → k < length p → from ≤ chunk_size * i + k → chunk_size * i + k < from + length new
      → get_or (patched i from new p) k 0 ≡ get_or new (chunk_size * i + k - from) 0
  unfolding patched part at skip
  patched_new k l a b =
      let e : k ≡ at + (k - at) = omega arith in
      let g : skip + (k - at) ≡ chunk_size * i + k - from = omega arith in
      let w : k - at < min (length p - at) (length new - skip) = inner (length p) (length new) from (chunk_size * i) k at skip refl refl l a b in
      let v : k - at < length part = subst (λ (m : ℕ). k - at < m) (sym part_length) w in
      ap (λ (n : ℕ). get_or (placed part at p) n 0) e
      ∙ get_d_within part p at (omega (arith, e, l)) (k - at) v
      ∙ get_or-take (length p - at) (drop skip new) (k - at) 0 (less k (length p) at (omega (arith, e)) l)
      ∙ get_or-drop skip new (k - at) 0
      ∙ ap (λ (n : ℕ). get_or new n 0) g

  pub patched_old : (k : ℕ) → k < length p → (chunk_size * i + k < from) ⊎ (from + length new ≤ chunk_size * i + k) → get_or (patched i from new p) k 0 ≡ get_or p k 0
  unfolding patched part at skip
  patched_old k l (inl a) = get_d_ahead part p at k (omega arith) l
  patched_old k l (inr a) = let t = part_length in get_d_behind part p at (omega arith) k (omega arith)

  pub patched-bytes_below : Bytes new → Bytes p → Bytes (patched i from new p)
  unfolding patched part at skip
  patched-bytes_below hn hp = below_placed part p at (below_take (length p - at) (below_drop skip hn)) hp

  -- a chunk that has no byte of the range stays as it was
  pub patched_none : (from + length new ≤ chunk_size * i) ⊎ ((chunk_size * i + length p ≤ from) ⊎ (length new ≡ 0)) → patched i from new p ≡ p
  patched_none h = ext_get_or 0 (patched i from new p) p patched-length (λ k l. go k (rw patched-length at l) h)
    where
      go : (k : ℕ) → k < length p → (from + length new ≤ chunk_size * i) ⊎ ((chunk_size * i + length p ≤ from) ⊎ (length new ≡ 0)) → get_or (patched i from new p) k 0 ≡ get_or p k 0
      go k l (inl x) = patched_old k l (inr (omega arith))
      go k l (inr (inl x)) = patched_old k l (inl (omega arith))
      go k l (inr (inr x)) = patched_old k l (⊎_elim (λ (y : from ≤ chunk_size * i + k). inr (omega arith)) (λ (y : chunk_size * i + k < from). inl y) (le_or_lt from (chunk_size * i + k)))

pub patched_bytes : PatchedBytes
patched_bytes i from new p = (patched-length i from new p, patched_old i from new p, patched_new i from new p)

pub patched-parts : PatchedParts
patched-parts i from new clear h = ext_get_or 0 (patched i from new p) q (patched-length i from new p ∙ lengths) (λ k l. go k (rw (patched-length i from new p) at l))
  where
    p : List ℕ
    p = take chunk_size (drop (chunk_size * i) clear)

    q : List ℕ
    q = take chunk_size (drop (chunk_size * i) (placed new from clear))

    lengths : length p ≡ length q
    lengths =
        length-take chunk_size (drop (chunk_size * i) clear)
        ∙ ap (min chunk_size) (length-drop (chunk_size * i) clear ∙ ap (λ (n : ℕ). n - chunk_size * i) (sym (placed-length new clear from h)) ∙ sym (length-drop (chunk_size * i) (placed new from clear)))
        ∙ sym (length-take chunk_size (drop (chunk_size * i) (placed new from clear)))

    short : length p ≤ chunk_size
    short = let e = length-take chunk_size (drop (chunk_size * i) clear) in omega arith

    inside : (k : ℕ) → k < length p → chunk_size * i + k < length clear
    inside k l =
        let e = length-take chunk_size (drop (chunk_size * i) clear) in
        let g = length-drop (chunk_size * i) clear in
        omega arith

    byte : (l : List ℕ) (k : ℕ) → k < chunk_size → get_or (take chunk_size (drop (chunk_size * i) l)) k 0 ≡ get_or l (chunk_size * i + k) 0
    byte l k u = get_or-take chunk_size (drop (chunk_size * i) l) k 0 u ∙ get_or-drop (chunk_size * i) l k 0

    go : (k : ℕ) → k < length p → get_or (patched i from new p) k 0 ≡ get_or q k 0
    go k l =
        let s = short in
        let n = inside k l in
        let c : k < chunk_size = omega arith in
        ⊎_elim (λ (x : from ≤ chunk_size * i + k).
        ⊎_elim (λ (y : from + length new ≤ chunk_size * i + k).
        patched_old i from new p k l (inr y) ∙ byte clear k c ∙ sym (get_d_behind new clear from (omega arith) (chunk_size * i + k) y) ∙ sym (byte (placed new from clear) k c))
        (λ (y : chunk_size * i + k < from + length new).
        let e : from + (chunk_size * i + k - from) ≡ chunk_size * i + k = omega arith in
        patched_new i from new p k l x y
        ∙ sym (get_d_within new clear from (omega arith) (chunk_size * i + k - from) (omega arith))
        ∙ ap (λ (m : ℕ). get_or (placed new from clear) m 0) e
        ∙ sym (byte (placed new from clear) k c))
        (le_or_lt (from + length new) (chunk_size * i + k)))
        (λ (x : chunk_size * i + k < from).
        patched_old i from new p k l (inl x) ∙ byte clear k c ∙ sym (get_d_ahead new clear from (chunk_size * i + k) x n) ∙ sym (byte (placed new from clear) k c))
        (le_or_lt from (chunk_size * i + k))
