-- The file of a choice, mended, is the file of the choice with the range and the covering chunks' nonces replaced.
-- Assumes nothing.
use mathlib.Core.Path.{◌≡◌, refl, sym, ap, ◌∙◌, subst}
use mathlib.Core.Logic.{◌⊎◌, inl, inr, ⊎_elim}
use mathlib.Core.List.{List, [], ◌∷◌}
use Prim.Native.Nat.{ℕ, suc, ◌+◌, ◌-◌, ◌*◌, ◌/◌, ◌≤◌, ◌<◌}
use native.Mathlib.Nat.{mul-zero, mul-suc, mul-add, mul-le-mul_left, le_of_eq, zero-add}
use native.Mathlib.Omega.{arith}
use lib.ListN.{length, take, drop, replicate, length-drop, length-replicate}
use lib.Seq.{drop-drop, drop-append-le, take-append-le}
use Rattle.octets.specs.Bytes.{Bytes, placed}
use Rattle.octets.specs.Rows.{End, Succeeded}
use Rattle.frame.specs.Layout.{chunk_size, chunks, covering, clear_length, right_length, chunk_at, all_parts}
use Rattle.frame.specs.Frame.{Codec, Choice, Fits, file_of, head_in, clear_of, open_file}
use Rattle.frame.specs.Laws.{Laws}
use Rattle.frame.specs.Statements.{Room}
use Rattle.frame.proofs.Pieces.{covers_end, all_parts_lem, join_parts, nonce_of, length-nonces, nonce-piece}
use Rattle.frame.proofs.Filling.{part-take}
use Rattle.frame.proofs.Written as written
use Rattle.frame.proofs.Files.{opens_exactly}
use Rattle.mend_spec.specs.Mend.{mended_choice, mended}
use Rattle.mend_spec.specs.Statements.{Mending, MendedFile}
use Rattle.octets.proofs.Placed.{placed-length, drop-part, drop-behind, take_ahead}
use Rattle.mend_spec.proofs.Ends.{Mends}
use Rattle.mend_spec.proofs.After.{g_length, g_shaped, g_head, g_bytes, g_other, g_chunk, head-fits, nonce_long, either, shaped, clear-mended, g_opens, mends_of, after_is}

-- ---- pieces of w elements of a list in which k pieces from number s on are replaced by x

module _ (w s k : ℕ) (x l : List ℕ) (size : length x ≡ w * k) (low : w * s ≤ length l) where
  pub pieces-within : (i : ℕ) → s ≤ i → i < s + k → take w (drop (w * i) (placed x (w * s) l)) ≡ take w (drop (w * (i - s)) x)
  pieces-within i a b =
      let d = i - s in
      let m = mul-add w s d in
      let e : i ≡ s + d = omega (arith, a) in
      let g : w * i ≡ w * s + w * d = ap (λ (y : ℕ). w * y) e ∙ m in
      let u = mul-suc w d in
      let c : suc d ≤ k = omega (arith, a, b) in
      let v = mul-le-mul_left {m = suc d} {n = k} w c in
      let r : w ≤ length (drop (w * d) x) = rw (length-drop, size) (omega (arith, u, v)) in
      ap (λ (y : ℕ). take w (drop y (placed x (w * s) l))) g
      ∙ ap (take w) (sym (drop-drop (w * d) (w * s) (placed x (w * s) l)))
      ∙ ap (λ (y : List ℕ). take w (drop (w * d) y)) (drop-part x l (w * s) low)
      ∙ ap (take w) (drop-append-le (w * d) x (drop (w * s + length x) l) (omega (arith, size, u, v)))
      ∙ take-append-le w (drop (w * d) x) (drop (w * s + length x) l) r

  pub pieces_beside : (i : ℕ) → (i < s) ⊎ (s + k ≤ i) → take w (drop (w * i) (placed x (w * s) l)) ≡ take w (drop (w * i) l)
  pieces_beside i (inl a) =
      let u = mul-suc w i in
      let v = mul-le-mul_left {m = suc i} {n = s} w a in
      let c : w * i + w ≤ w * s = omega (arith, u, v) in
      sym (part-take w (w * i) (w * s) (placed x (w * s) l) c)
      ∙ ap (λ (y : List ℕ). take w (drop (w * i) y)) (take_ahead x l (w * s) low)
      ∙ part-take w (w * i) (w * s) l c
  pieces_beside i (inr a) =
      let m = mul-add w s k in
      let v = mul-le-mul_left {m = s + k} {n = i} w a in
      ap (take w) (drop-behind x l (w * s) low (w * i) (omega (arith, size, m, v)))

module _ (C : Codec) (𝓛 : Laws C) where
  open C use {sizes as z, keys_right, header_of, chunk_of, head_of, header_good, good, plain}

  module _ (f : List ℕ) (from : ℕ) (new nonces : List ℕ) (bf : Bytes f) (bw : Bytes new) (bs : Bytes nonces) (o : Mends C f from new nonces) where
    abbrev n : ℕ
    n = clear_length z (length f)

    abbrev s : ℕ
    s = from / chunk_size

    abbrev k : ℕ
    k = covering from (length new)

    abbrev old : List ℕ
    old = all_parts z (nonce_of z) f

    abbrev g : List ℕ
    g = mended C f from new nonces

    ending_chunk : s + k ≤ chunks n
    ending_chunk = let e = covers_end n from (length new) (s + k) refl o.inside.within in omega (arith, e)

    old_long : length old ≡ z.nonce * chunks n
    old_long = length-nonces z 𝓛.chunk_laws.nonce-size f n (shaped C 𝓛 f from new nonces bf bw bs o)

    fit : z.nonce * s + length nonces ≤ length old
    fit =
        let m = mul-add z.nonce s k in
        let e = mul-le-mul_left {m = s + k} {n = chunks n} z.nonce ending_chunk in
        let c = o.counted in
        let l = old_long in
        omega (arith, m, e, c, l)

    piece : (j : ℕ) → chunk_size * j < n → nonce_of z j (chunk_at z g j) ≡ take z.nonce (drop (z.nonce * j) (placed nonces (z.nonce * s) old))
    piece j l =
        let q = fit in
        let low : z.nonce * s ≤ length old = omega (arith, q) in
        ⊎_elim (λ (c : (s ≤ j) × (j < s + k)).
        ap (take z.nonce) (g_chunk C 𝓛 f from new nonces bf bw bs o j c.0 c.1)
        ∙ 𝓛.chunk_laws.chunk_nonce (head_in C f) j _ _ (head-fits C 𝓛 f from new nonces bf bw bs o) (nonce_long C 𝓛 f from new nonces bf bw bs o j c.0 c.1)
        ∙ sym (pieces-within z.nonce s k nonces old o.counted low j c.0 c.1))
        (λ (c : (j < s) ⊎ (s + k ≤ j)).
        ap (take z.nonce) (g_other C 𝓛 f from new nonces bf bw bs o j c)
        ∙ sym (nonce-piece z 𝓛.chunk_laws.nonce-size f n j (shaped C 𝓛 f from new nonces bf bw bs o) l)
        ∙ sym (pieces_beside z.nonce s k nonces old o.counted low j c))
        (either C 𝓛 f from new nonces bf bw bs o j)

    -- the nonces of the chunks afterwards
    pub nonces-mended : all_parts z (nonce_of z) g ≡ placed nonces (z.nonce * s) old
    nonces-mended =
        let e = placed-length nonces old (z.nonce * s) fit in
        all_parts_lem z (nonce_of z) g n (g_shaped C 𝓛 f from new nonces bf bw bs o)
        ∙ join_parts z (nonce_of z) z.nonce g (placed nonces (z.nonce * s) old) 0 (chunks n) (λ j a b. piece j (omega (arith, b)))
        (le_of_eq (e ∙ old_long ∙ ap (λ (y : ℕ). z.nonce * y) (sym (zero-add (chunks n)))))
        ∙ ap (λ (y : ℕ). drop y (placed nonces (z.nonce * s) old)) (mul-zero z.nonce)

  module _ (c : Choice) (from : ℕ) (new nonces : List ℕ) (fits : Fits z c) (m : Mending C (file_of C c) from new nonces) where
    abbrev f : List ℕ
    f = file_of C c

    abbrev g' : List ℕ
    g' = mended C f from new nonces

    abbrev o : Mends C f from new nonces
    o = mends_of C 𝓛 f from new nonces m

    room : List ℕ
    room = replicate (clear_length z (length f)) 0

    roomy : Room z f room
    unfolding room
    roomy e = le_of_eq (sym (length-replicate (clear_length z (length f)) 0))

    roomy' : Room z g' room
    roomy' e =
        let l = ap (clear_length z) (g_length C 𝓛 f from new nonces m.file-bytes m.new_bytes m.nonces-bytes o) in
        let r = roomy (sym (ap (right_length z) (g_length C 𝓛 f from new nonces m.file-bytes m.new_bytes m.nonces-bytes o)) ∙ e) in
        omega (arith, l, r)

    opens : Succeeded (open_file C g' room)
    opens =
        let a = (opens_exactly C 𝓛 f room m.file-bytes roomy).0.1 (c, fits, refl) in
        let b = (g_opens C 𝓛 f from new nonces m.file-bytes m.new_bytes m.nonces-bytes o room room roomy roomy).1 a in
        (clear_length z (length f) ∷ [], ap (λ (x : End). x.outcome) b)

    -- the choice that the mended file says
    said : (d : Choice) × Fits z d × (file_of C d ≡ g')
    said = (opens_exactly C 𝓛 g' room (g_bytes C 𝓛 f from new nonces m.file-bytes m.new_bytes m.nonces-bytes o) roomy').0.0 opens

    same_choice : (d : Choice) → Fits z d → file_of C d ≡ g' → d ≡ mended_choice z c from new nonces
    same_choice d ok e =
        let bf = m.file-bytes in
        let bw = m.new_bytes in
        let bs = m.nonces-bytes in
        let p : d.head ≡ c.head = sym (written.file-head C 𝓛 d ok) ∙ ap (head_in C) e ∙ g_head C 𝓛 f from new nonces bf bw bs o ∙ written.file-head C 𝓛 c fits in
        let q : d.nonces ≡ placed nonces (z.nonce * (from / chunk_size)) c.nonces =
        sym (written.file-nonces C 𝓛 d ok)
        ∙ ap (all_parts z (nonce_of z)) e
        ∙ nonces-mended f from new nonces bf bw bs o
        ∙ ap (placed nonces (z.nonce * (from / chunk_size))) (written.file-nonces C 𝓛 c fits) in
        let r : d.clear ≡ placed new from c.clear =
        sym (written.file-clear C 𝓛 d ok) ∙ ap (clear_of C) e ∙ clear-mended C 𝓛 f from new nonces bf bw bs o ∙ ap (placed new from) (written.file-clear C 𝓛 c fits) in
        λ i. record { head = p i; nonces = q i; clear = r i }

  pub mended-file : MendedFile C
  mended-file c from new nonces fits m =
      let d = said c from new nonces fits m in
      let e = same_choice c from new nonces fits m d.0 d.1 d.2 in
      (subst (Fits z) e d.1, after_is C 𝓛 (file_of C c) from new nonces m ∙ sym d.2 ∙ ap (file_of C) e)
