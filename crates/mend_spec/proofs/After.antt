-- The file after a mend that succeeded: its chunks, its cleartext, and what reads give.
-- Assumes nothing.
use mathlib.Core.Path.{◌≡◌, refl, sym, ap, ap₂, ◌∙◌, subst}
use mathlib.Core.Bool.{Bool, true, cond}
use mathlib.Core.Logic.{◌⊎◌, inl, inr, ⊎_elim}
use mathlib.Core.List.{List, [], ◌∷◌, ◌++◌}
use Prim.Native.Nat.{ℕ, zero, suc, ◌+◌, ◌-◌, ◌*◌, ◌/◌, ◌≤◌, ◌<◌}
use native.Mathlib.Nat.{mul-suc, mul-le-mul_left}
use native.Mathlib.Omega.{arith}
use lib.ListN.{length, take, drop, get_or, length-drop}
use lib.Seq.{length-take-le, take_at, take-length, get_or-take, get_or-drop}
use Rattle.octets.specs.Bytes.{Bytes, filled, placed}
use Rattle.octets.specs.Rows.{Outcome, done, refused, refused_at, answer, leaves, End, ended, ending, Succeeded}
use Rattle.octets.proofs.Lists.{le_or_lt}
use Rattle.octets.proofs.Bytes.{below_take, below_drop}
use Rattle.frame.specs.Layout.{Sizes, chunk_size, chunks, covering, file_length, clear_length, header_at, chunk_at, Covers, lowest_bad, all_parts}
use Rattle.frame.specs.Frame.{Head, HeadFits, Codec, head_in, clear_of, bad_chunk, range_rows, read_range, open_file}
use Rattle.frame.specs.Laws.{Laws}
use Rattle.frame.specs.Rules.{piece}
use Rattle.frame.specs.Statements.{Room}
use Rattle.frame.proofs.Lengths.{file-clear}
use Rattle.frame.proofs.Pieces.{covers_all, covers_count, covers_some, covering-end, chunk_length, bytes_chunk, below_good, all_parts_lem, join_parts, length-clear, clear-piece}
use Rattle.frame.proofs.Success.{Reads, succeeded, succeeds, head_alike, opening_is_reading}
use Rattle.mend_spec.specs.Mend.{patched, chunk_start, resealed, mended, mend_rows, mend_file}
use Rattle.mend_spec.specs.Statements.{Mending, after, MendedChunks, MendedRest, MendBytes, MendedOpens, MendedReads, MendedReadsBack}
use Rattle.octets.proofs.Placed.{placed-length, drop-part}
use Rattle.mend_spec.proofs.Patches.{patched_none, patched-bytes_below, patched-parts}
use Rattle.mend_spec.proofs.Chunks.{mended-length, mended_ahead, mended-behind, mended-other, mended_chunk, mended-bytes}
use Rattle.mend_spec.proofs.Ends.{Mends, mends, mend_succeeded, mend_succeeds}

-- chunks that are good in one file exactly where they are in the other have the same lowest bad one
bad_same : (z : Sizes) (good : ℕ → List ℕ → Bool) (f g : List ℕ) → ((i : ℕ) → good i (chunk_at z f i) ≡ good i (chunk_at z g i)) → (s k : ℕ) → lowest_bad z good f s k ≡ lowest_bad z good g s k
unfolding lowest_bad
bad_same z good f g h s zero = refl
bad_same z good f g h s (suc k) = ap₂ (λ (b : Bool) (r : ℕ). cond b r s) (h s) (bad_same z good f g h (suc s) k)

module _ (C : Codec) (𝓛 : Laws C) where
  open C use {sizes as z, keys_right, header_of, chunk_of, head_of, header_good, good, plain}

  module _ (f : List ℕ) (from : ℕ) (new nonces : List ℕ) (bf : Bytes f) (bw : Bytes new) (bs : Bytes nonces) (o : Mends C f from new nonces) where
    abbrev n : ℕ
    n = clear_length z (length f)

    abbrev h : Head
    h = head_in C f

    abbrev s : ℕ
    s = from / chunk_size

    abbrev k : ℕ
    k = covering from (length new)

    abbrev g : List ℕ
    g = mended C f from new nonces

    pub shaped : length f ≡ file_length z n
    shaped = file-clear z (length f) o.inside.right

    header_long : length (header_at z f) ≡ z.header
    unfolding header_at
    header_long = let e = shaped in length-take-le z.header f (omega arith)

    pub head-fits : HeadFits z h
    unfolding head_in header_at
    head-fits = 𝓛.good-head (header_at z f) (below_take z.header bf) header_long o.headed

    has : (j : ℕ) → s ≤ j → j < s + k → chunk_size * j < n
    has j a b = covers_some n from (length new) j o.inside.within a b

    -- ---- bytes and chunks

    pub g_length : length g ≡ length f
    unfolding mended
    g_length = mended-length C 𝓛.chunk_laws h head-fits from new n k f s nonces shaped has o.counted ∙ sym shaped

    pub g_shaped : length g ≡ file_length z n
    g_shaped = g_length ∙ shaped

    pub g_ahead : (m : ℕ) → m ≤ chunk_start z s → take m g ≡ take m f
    unfolding mended
    g_ahead = mended_ahead C 𝓛.chunk_laws h head-fits from new n k f s nonces shaped has o.counted

    pub g_header : header_at z g ≡ header_at z f
    unfolding header_at
    g_header = g_ahead z.header (omega arith)

    pub g_head : head_in C g ≡ h
    g_head = head_alike C g f g_header

    pub g_behind : (m : ℕ) → chunk_start z (s + k) ≤ m → drop m g ≡ drop m f
    unfolding mended
    g_behind = mended-behind C 𝓛.chunk_laws h head-fits from new n k f s nonces shaped has o.counted

    pub g_other : (j : ℕ) → (j < s) ⊎ (s + k ≤ j) → chunk_at z g j ≡ chunk_at z f j
    unfolding mended
    g_other = mended-other C 𝓛.chunk_laws h head-fits from new n k f s nonces shaped has o.counted

    pub g_chunk : (j : ℕ) → s ≤ j → j < s + k → chunk_at z g j ≡ chunk_of h j (piece z.nonce nonces (j - s)) (patched j from new (plain h j (chunk_at z f j)))
    unfolding mended resealed
    g_chunk = mended_chunk C 𝓛.chunk_laws h head-fits from new n k f s nonces shaped has o.counted

    pub g_bytes : Bytes g
    unfolding mended
    g_bytes = mended-bytes C 𝓛.chunk_laws h head-fits from new bw k f s nonces bf bs

    -- ---- a covering chunk is good, before and after

    pub nonce_long : (j : ℕ) → s ≤ j → j < s + k → length (piece z.nonce nonces (j - s)) ≡ z.nonce
    nonce_long j a b =
        let ns = z.nonce in
        let m = mul-suc ns (j - s) in
        let c = o.counted in
        let i : suc (j - s) ≤ k = omega (arith, a, b) in
        let e = mul-le-mul_left {m = suc (j - s)} {n = k} ns i in
        length-take-le ns (drop (ns * (j - s)) nonces) (rw length-drop (omega (arith, m, c, e)))

    nonce-bytes : (j : ℕ) → Bytes (piece z.nonce nonces (j - s))
    nonce-bytes j = below_take z.nonce (below_drop (z.nonce * (j - s)) bs)

    old_bytes : (j : ℕ) → Bytes (plain h j (chunk_at z f j))
    old_bytes j = 𝓛.chunk_laws.plain-bytes h j (chunk_at z f j) head-fits (bytes_chunk z f j bf)

    new_bytes : (j : ℕ) → Bytes (patched j from new (plain h j (chunk_at z f j)))
    new_bytes j = patched-bytes_below j from new (plain h j (chunk_at z f j)) bw (old_bytes j)

    was_good : (j : ℕ) → s ≤ j → j < s + k → good h j (chunk_at z f j) ≡ true
    unfolding bad_chunk
    was_good j a b = let t = o.tagged in below_good z (good h) f s k j a (omega (arith, t, b))

    is_good : (j : ℕ) → s ≤ j → j < s + k → good h j (chunk_at z g j) ≡ true
    is_good j a b = ap (good h j) (g_chunk j a b) ∙ 𝓛.chunk_laws.chunk_good h j _ _ head-fits (nonce_long j a b) (nonce-bytes j) (new_bytes j)

    is_plain : (j : ℕ) → s ≤ j → j < s + k → plain h j (chunk_at z g j) ≡ patched j from new (plain h j (chunk_at z f j))
    is_plain j a b = ap (plain h j) (g_chunk j a b) ∙ 𝓛.chunk_laws.chunk_plain h j _ _ head-fits (nonce_long j a b) (nonce-bytes j) (new_bytes j)

    -- a chunk covers the range, or it does not
    pub either : (j : ℕ) → ((s ≤ j) × (j < s + k)) ⊎ ((j < s) ⊎ (s + k ≤ j))
    either j =
        ⊎_elim (λ (a : s ≤ j). ⊎_elim (λ (b : s + k ≤ j). inr (inr b)) (λ (b : j < s + k). inl (a, b)) (le_or_lt (s + k) j))
        (λ (a : j < s). inr (inl a))
        (le_or_lt s j)

    good_stays : (j : ℕ) → good h j (chunk_at z g j) ≡ good h j (chunk_at z f j)
    good_stays j =
        ⊎_elim (λ (c : (s ≤ j) × (j < s + k)). is_good j c.0 c.1 ∙ sym (was_good j c.0 c.1))
        (λ (c : (j < s) ⊎ (s + k ≤ j)). ap (good h j) (g_other j c))
        (either j)

    pub bad_stays : (at count : ℕ) → bad_chunk C g at count ≡ bad_chunk C f at count
    unfolding bad_chunk
    bad_stays at count =
        ap (λ (x : Head). lowest_bad z (good x) g (at / chunk_size) (covering at count)) g_head
        ∙ bad_same z (good h) g f good_stays (at / chunk_size) (covering at count)

    -- ---- cleartext

    pub clear_long : length (clear_of C f) ≡ n
    unfolding clear_of
    clear_long = length-clear z (plain h) (𝓛.chunk_laws.plain_size h) f n shaped

    pub within : from + length new ≤ length (clear_of C f)
    within = let l = clear_long in let w = o.inside.within in omega arith

    -- a chunk that does not cover the range has no byte of it
    beside : (j : ℕ) → chunk_size * j < n → (j < s) ⊎ (s + k ≤ j) → patched j from new (plain h j (chunk_at z f j)) ≡ plain h j (chunk_at z f j)
    beside j l c = patched_none j from new (plain h j (chunk_at z f j)) (⊎_elim (λ (a : j < s). inr (inl (ahead a))) (λ (a : s + k ≤ j). behind a) c)
      where
        short : length (plain h j (chunk_at z f j)) ≤ chunk_size
        short =
            let a = 𝓛.chunk_laws.plain_size h j (chunk_at z f j) in
            let b = chunk_length z f n j shaped l in
            omega (arith, a, b)

        ahead : j < from / chunk_size → chunk_size * j + length (plain h j (chunk_at z f j)) ≤ from
        ahead a = let b = short in omega (arith, a, b)

        behind : from / chunk_size + covering from (length new) ≤ j
            → (from + length new ≤ chunk_size * j) ⊎ ((chunk_size * j + length (plain h j (chunk_at z f j)) ≤ from) ⊎ (length new ≡ 0))
        behind a =
            let e = covering-end from (length new) in
            ⊎_elim (λ (x : length new ≤ 0). inr (inr (omega (arith, x))))
            (λ (x : 0 < length new). let q = e.1 x in inl (omega (arith, a, q, x)))
            (le_or_lt (length new) 0)

    plain-piece : (j : ℕ) → chunk_size * j < n → plain h j (chunk_at z g j) ≡ take chunk_size (drop (chunk_size * j) (placed new from (clear_of C f)))
    unfolding clear_of
    plain-piece j l =
        ⊎_elim (λ (c : (s ≤ j) × (j < s + k)). is_plain j c.0 c.1)
        (λ (c : (j < s) ⊎ (s + k ≤ j)). ap (plain h j) (g_other j c) ∙ sym (beside j l c))
        (either j)
        ∙ ap (patched j from new) (sym (clear-piece z (plain h) (𝓛.chunk_laws.plain_size h) f n j shaped l))
        ∙ patched-parts j from new (clear_of C f) within

    pub clear-mended : clear_of C g ≡ placed new from (clear_of C f)
    unfolding clear_of
    clear-mended =
        let e = placed-length new (clear_of C f) from within in
        let l = clear_long in
        ap (λ (x : Head). all_parts z (plain x) g) g_head
        ∙ all_parts_lem z (plain h) g n g_shaped
        ∙ join_parts z (plain h) chunk_size g (placed new from (clear_of C f)) 0 (chunks n) (λ j a b. plain-piece j (omega (arith, b))) (omega (arith, e, l))

    -- ---- reads

    same_rows : (at count room : ℕ) → range_rows C g at count room ≡ range_rows C f at count room
    unfolding range_rows
    same_rows at count room = rw (g_length, g_header, bad_stays at count)

    pub g_reads : (at count : ℕ) (out : List ℕ)
        → read_range C g at count out ≡ ending (read_range C f at count out).outcome (filled (drop at (placed new from (clear_of C f))) count out) out
    unfolding read_range
    g_reads at count out =
        ap₂ (λ (r : Outcome) (c : List ℕ). ending r (filled (drop at c) count out) out) (ap (λ r. answer r (done (count ∷ []))) (same_rows at count (length out))) clear-mended

    pub reads_old : (out : List ℕ) → length new ≤ length out → Reads C f from (length new) (length out)
    reads_old out room = record { keyed = o.keyed; inside = o.inside; roomy = room; headed = o.headed; tagged = o.tagged }

    pub g_reads_back : (out : List ℕ) → length new ≤ length out → read_range C g from (length new) out ≡ ended (done (length new ∷ [])) (filled new (length new) out)
    g_reads_back out room =
        let w = within in
        let e : take (length new) (drop from (placed new from (clear_of C f))) ≡ take (length new) new =
        ap (take (length new)) (drop-part new (clear_of C f) from (omega (arith, w))) ∙ take_at new _ (length new) refl ∙ sym (take-length new) in
        g_reads from (length new) out
        ∙ ap (λ (x : End). ending x.outcome (filled (drop from (placed new from (clear_of C f))) (length new) out) out) (succeeds C f from (length new) out (reads_old out room))
        ∙ ap (λ (x : List ℕ). ended (done (length new ∷ [])) (x ++ drop (length new) out)) e

    -- the same file and room for another buffer
    other-room : (out into : List ℕ) → Room z f into → Succeeded (open_file C f out) → read_range C f 0 n into ≡ ended (done (n ∷ [])) (filled (clear_of C f) n into)
    other-room out into room d =
        let r = succeeded C f 0 n out (subst Succeeded (opening_is_reading C f out) d) in
        succeeds C f 0 n into (record { keyed = r.keyed; inside = r.inside; roomy = room r.inside.right; headed = r.headed; tagged = r.tagged })

    opening_g : (into : List ℕ) → open_file C g into ≡ ending (read_range C f 0 n into).outcome (filled (placed new from (clear_of C f)) n into) into
    opening_g into = opening_is_reading C g into ∙ ap (λ (x : ℕ). read_range C g 0 (clear_length z x) into) g_length ∙ g_reads 0 n into

    pub g_opens : (out into : List ℕ) → Room z f out → Room z f into
        → (Succeeded (open_file C g into) → Succeeded (open_file C f out))
        × (Succeeded (open_file C f out) → open_file C g into ≡ ended (done (n ∷ [])) (filled (placed new from (clear_of C f)) n into))
    g_opens out into ro ri = (
      λ d.
          let q : Succeeded (read_range C f 0 n into) = (d.0, sym (ap (λ (x : End). x.outcome) (opening_g into)) ∙ d.1) in
          let p : Succeeded (open_file C f into) = subst Succeeded (sym (opening_is_reading C f into)) q in
          let e = opening_is_reading C f out ∙ other-room into out ro p in
          (n ∷ [], ap (λ (x : End). x.outcome) e),
      λ d. opening_g into ∙ ap (λ (x : End). ending x.outcome (filled (placed new from (clear_of C f)) n into) into) (other-room out into ri d),
    )

  -- ---- the statements

  module _ (f : List ℕ) (from : ℕ) (new nonces : List ℕ) (m : Mending C f from new nonces) where
    pub mends_of : Mends C f from new nonces
    mends_of = mend_succeeded C f from new nonces m.success

    pub after_is : after C f from new nonces ≡ mended C f from new nonces
    after_is = ap (λ (x : End). x.buffer) (mend_succeeds C f from new nonces mends_of)

  pub mended-chunks : MendedChunks C
  mended-chunks f from new nonces m i v =
      ap (λ (x : List ℕ). chunk_at z x i) (after_is f from new nonces m)
      ∙ g_chunk f from new nonces m.file-bytes m.new_bytes m.nonces-bytes (mends_of f from new nonces m) i v.low (covers_count from (length new) i v.some v.low v.high)

  -- a place among the k chunks from number s up to e is in one of them
  in_chunk : (k s e p : ℕ) → e ≡ s + k → chunk_start z s ≤ p → p < chunk_start z e → (i : ℕ) × (s ≤ i) × (i < e) × (chunk_start z i ≤ p) × (p < chunk_start z (i + 1))
  in_chunk zero s e p q a b =
      let x : e ≡ s = omega (arith, q) in
      let y = ap (chunk_start z) x in
      absurd (omega (arith, y, a, b))
  in_chunk (suc k) s e p q a b =
      ⊎_elim (λ (h : chunk_start z (s + 1) ≤ p).
      let x : e ≡ s + 1 + k = omega (arith, q) in
      let t = in_chunk k (s + 1) e p x h b in
      let l = t.1 in
      (t.0, omega (arith, l), t.2, t.3, t.4))
      (λ (h : p < chunk_start z (s + 1)). (s, omega arith, omega (arith, q), a, h))
      (le_or_lt (chunk_start z (s + 1)) p)

  pub mended-rest : MendedRest C
  mended-rest f from new nonces m = (ap length e ∙ g_length f from new nonces bf bw bs o, byte)
    where
      e : after C f from new nonces ≡ mended C f from new nonces
      e = after_is f from new nonces m

      o : Mends C f from new nonces
      o = mends_of f from new nonces m

      bf : Bytes f
      bf = m.file-bytes

      bw : Bytes new
      bw = m.new_bytes

      bs : Bytes nonces
      bs = m.nonces-bytes

      g : List ℕ
      g = mended C f from new nonces

      first : ℕ
      first = from / chunk_size

      last : ℕ
      last = from / chunk_size + covering from (length new)

      kept : (p : ℕ) → ((i : ℕ) → Covers z (length f) from (length new) i → (p < chunk_start z i) ⊎ (chunk_start z (i + 1) ≤ p)) → get_or g p 0 ≡ get_or f p 0
      kept p out =
          ⊎_elim (λ (h : chunk_start z first ≤ p).
          ⊎_elim (λ (l : chunk_start z last ≤ p).
          let b = chunk_start z last in
          let q : p ≡ b + (p - b) = omega (arith, l) in
          ap (λ (i : ℕ). get_or g i 0) q
          ∙ sym (get_or-drop b g (p - b) 0)
          ∙ ap (λ (x : List ℕ). get_or x (p - b) 0) (g_behind f from new nonces bf bw bs o b (omega arith))
          ∙ get_or-drop b f (p - b) 0
          ∙ ap (λ (i : ℕ). get_or f i 0) (sym q))
          (λ (l : p < chunk_start z last).
          let t = in_chunk (covering from (length new)) first last p refl h l in
          let c = covers_all from (length new) t.0 t.1 t.2 in
          let low = t.3 in
          let high = t.4 in
          absurd (⊎_elim (λ (x : p < chunk_start z t.0). omega (arith, x, low)) (λ (x : chunk_start z (t.0 + 1) ≤ p). omega (arith, x, high))
          (out t.0 (record { inside = o.inside; some = c.0; low = t.1; high = c.1 }))))
          (le_or_lt (chunk_start z last) p))
          (λ (h : p < chunk_start z first).
          let a = chunk_start z first in
          sym (get_or-take a g p 0 h) ∙ ap (λ (x : List ℕ). get_or x p 0) (g_ahead f from new nonces bf bw bs o a (omega arith)) ∙ get_or-take a f p 0 h)
          (le_or_lt (chunk_start z first) p)

      byte : (p : ℕ) → ((i : ℕ) → Covers z (length f) from (length new) i → (p < chunk_start z i) ⊎ (chunk_start z (i + 1) ≤ p)) → get_or (after C f from new nonces) p 0 ≡ get_or f p 0
      byte p out = ap (λ (x : List ℕ). get_or x p 0) e ∙ kept p out

  pub mend_bytes : MendBytes C
  unfolding mend_file
  mend_bytes f from new nonces bf bw bs = go (answer (mend_rows C f from new nonces) (done (length new ∷ []))) refl
    where
      go : (x : Outcome) → answer (mend_rows C f from new nonces) (done (length new ∷ [])) ≡ x → Bytes (leaves x (mended C f from new nonces) f)
      go (done l) e = g_bytes f from new nonces bf bw bs (mends C f from new nonces l e)
      go (refused row) e = bf
      go (refused_at row i) e = bf

  pub mended_reads : MendedReads C
  mended_reads f from new nonces m at count out =
      ap (λ (x : List ℕ). read_range C x at count out) (after_is f from new nonces m)
      ∙ g_reads f from new nonces m.file-bytes m.new_bytes m.nonces-bytes (mends_of f from new nonces m) at count out

  pub mended_reads_back : MendedReadsBack C
  mended_reads_back f from new nonces out m room =
      ap (λ (x : List ℕ). read_range C x from (length new) out) (after_is f from new nonces m)
      ∙ g_reads_back f from new nonces m.file-bytes m.new_bytes m.nonces-bytes (mends_of f from new nonces m) out room

  pub mended-opens : MendedOpens C
  mended-opens f from new nonces out into m ro ri =
      let a = ap (λ (x : List ℕ). open_file C x into) (after_is f from new nonces m) in
      let g = g_opens f from new nonces m.file-bytes m.new_bytes m.nonces-bytes (mends_of f from new nonces m) out into ro ri in (
        (λ d. g.0 (subst Succeeded a d), λ d. (clear_length z (length f) ∷ [], ap (λ (x : End). x.outcome) (a ∙ g.1 d))),
        λ d. a ∙ g.1 d,
      )
