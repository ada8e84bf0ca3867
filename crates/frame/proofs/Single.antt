-- A single header and a single chunk open exactly where they were written; and the calls on lengths.
-- Assumes nothing.
use mathlib.Core.Path.{◌≡◌, refl, sym, ap, ◌∙◌}
use mathlib.Core.Bool.{not}
use mathlib.Core.List.{List, [], ◌∷◌}
use Prim.Native.Nat.{ℕ, ◌+◌, ◌-◌, ◌≤◌}
use native.Mathlib.Omega.{arith}
use lib.ListN.{length, take, get_or}
use lib.Seq.{length-take-le, take_at}
use lib.Dec.{ltb, leb, eqb, lit≤}
use borrow.Author.Tests.{eqb-true, eq-eqb, leb-true, le-leb, ltb-false, le-ltb, not-false}
use Rattle.octets.specs.Bytes.{filled}
use Rattle.octets.specs.Rows.{Outcome, done, refused, refused_at, NoRow, EndsExactly, End, ended, Succeeded}
use Rattle.octets.proofs.Bytes.{below_replicate, below_take}
use Rattle.octets.proofs.Equality.{and_true, true_and}
use Rattle.octets.proofs.Rows.{ends_exactly, none_answers, done_none, none_ends}
use Rattle.frame.specs.Layout.{Sizes, chunk_size, limit, stored, file_length, clear_length, right_length}
use Rattle.frame.specs.Frame.{Head, Codec, key_size, reserved_size, head_with, own_head, HeadFits, head_right, file_of}
use Rattle.frame.specs.Laws.{ChunkLaws, Laws}
use Rattle.frame.specs.Single.{ChunkFits, file_length_of, clear_length_of, write_header_rows, write_header, open_header_rows, open_header, write_chunk_rows, write_chunk, open_chunk_rows, open_chunk}
use Rattle.frame.specs.SingleStatements.{LengthsInverse, SingleBytes, HeaderWrittenOpens, AnyReserved, WritesFF, HeaderOpensExactly, ChunkWrittenOpens, ChunkOpensExactly}
use Rattle.frame.proofs.Heads.{fits-right}
use Rattle.frame.proofs.Lengths.{right_lengths}

-- For code: the end of each call by its rows.
pub single_ends : (C : Codec)
    → ((h : Head) (out : List ℕ) → EndsExactly (write_header_rows C h (length out)) (C.sizes.header ∷ []) (filled (C.header_of h) C.sizes.header out) out (write_header C h out))
    × ((b out : List ℕ) → EndsExactly (open_header_rows C b (length out)) (key_size ∷ (C.head_of b).reserved) (filled (C.head_of b).key key_size out) out (open_header C b out))
    × ((h : Head) (i : ℕ) (n p out : List ℕ)
    → EndsExactly (write_chunk_rows C h n p (length out)) ((length p + C.sizes.overhead) ∷ []) (filled (C.chunk_of h i n p) (length p + C.sizes.overhead) out) out (write_chunk C h i n p out))
    × ((h : Head) (i : ℕ) (c out : List ℕ)
    → EndsExactly (open_chunk_rows C h i c (length out)) ((length c - C.sizes.overhead) ∷ []) (filled (C.plain h i c) (length c - C.sizes.overhead) out) out (open_chunk C h i c out))
unfolding write_header_rows open_header_rows write_chunk_rows open_chunk_rows write_header open_header write_chunk open_chunk
single_ends C = (
  λ h out. ends_exactly (write_header_rows C h (length out)) refl (C.sizes.header ∷ []) _ out,
  λ b out. ends_exactly (open_header_rows C b (length out)) refl (key_size ∷ (C.head_of b).reserved) _ out,
  λ h i n p out. ends_exactly (write_chunk_rows C h n p (length out)) refl ((length p + C.sizes.overhead) ∷ []) _ out,
  λ h i c out. ends_exactly (open_chunk_rows C h i c (length out)) refl ((length c - C.sizes.overhead) ∷ []) _ out,
)

pub single_bytes : (C : Codec) → Laws C → SingleBytes C
single_bytes C 𝓛 = (𝓛.header-bytes, 𝓛.chunk_laws.chunk_bytes)

-- ---- lengths

-- the first length of a success
abbrev first : Outcome → ℕ
first (done lengths) = get_or lengths 0 0
first (refused row) = 0
first (refused_at row at) = 0

pub lengths_inverse : (z : Sizes) → LengthsInverse z
unfolding file_length_of clear_length_of
lengths_inverse z n l = (to, from)
  where
    to : file_length_of z n ≡ done (l ∷ []) → clear_length_of z l ≡ done (n ∷ [])
    to e =
        let r = done_none ((ltb limit n, refused 4) ∷ []) (file_length z n ∷ []) (l ∷ []) refl e in
        let q : file_length z n ≡ l = ap first (sym (none_answers ((ltb limit n, refused 4) ∷ []) (done (file_length z n ∷ [])) r) ∙ e) in
        let k = (right_lengths z).1 n (ltb-false limit n r.0) in
        none_answers ((not (right_length z l), refused 4) ∷ []) (done (clear_length z l ∷ [])) (ap not (ap (right_length z) (sym q) ∙ k.0), tt)
        ∙ ap (λ (x : ℕ). done (x ∷ [])) (ap (clear_length z) (sym q) ∙ k.1)

    from : clear_length_of z l ≡ done (n ∷ []) → file_length_of z n ≡ done (l ∷ [])
    from e =
        let r = done_none ((not (right_length z l), refused 4) ∷ []) (clear_length z l ∷ []) (n ∷ []) refl e in
        let q : clear_length z l ≡ n = ap first (sym (none_answers ((not (right_length z l), refused 4) ∷ []) (done (clear_length z l ∷ [])) r) ∙ e) in
        let k = (right_lengths z).0 l (not-false (right_length z l) r.0) in
        let h = k.1 in
        none_answers ((ltb limit n, refused 4) ∷ []) (done (file_length z n ∷ [])) (le-ltb limit n (omega arith), tt)
        ∙ ap (λ (x : ℕ). done (x ∷ [])) (ap (file_length z) (sym q) ∙ sym k.0)

-- ---- the header

module _ (C : Codec) (𝓛 : Laws C) where
  open C use {sizes as z, keys_right, header_of, head_of, header_good}

  header-opens : (h : Head) (out : List ℕ) → HeadFits z h → key_size ≤ length out → open_header C (header_of h) out ≡ ended (done (key_size ∷ h.reserved)) (filled h.key key_size out)
  unfolding open_header open_header_rows
  header-opens h out ok room =
      let b = header_of h in
      let none : NoRow (open_header_rows C b (length out)) = (
        ap not 𝓛.keys-right,
        (ap not (eq-eqb (length b) z.header (𝓛.header-size h ok)), (le-ltb (length out) key_size room, (ap not (𝓛.header-good h ok), tt))),
      ) in
      none_ends (open_header_rows C b (length out)) (key_size ∷ (head_of b).reserved) (filled (head_of b).key key_size out) out none ∙ rw (𝓛.header_says h ok)

  pub header-opens_exactly : HeaderOpensExactly C
  unfolding open_header open_header_rows
  header-opens_exactly b out bytes room = ((was_written, λ c. (key_size ∷ c.0.reserved, ap (λ (e : End). e.outcome) (opens c.0 c.1 c.2))), opens)
    where
      opens : (h : Head) → HeadFits z h → header_of h ≡ b → open_header C b out ≡ ended (done (key_size ∷ h.reserved)) (filled h.key key_size out)
      opens h ok e = ap (λ (x : List ℕ). open_header C x out) (sym e) ∙ header-opens h out ok (room (ap length (sym e) ∙ 𝓛.header-size h ok))

      was_written : Succeeded (open_header C b out) → (h : Head) × HeadFits z h × (header_of h ≡ b)
      was_written s =
          let n = done_none (open_header_rows C b (length out)) (key_size ∷ (head_of b).reserved) s.0 refl s.1 in
          let size = eqb-true (length b) z.header (not-false _ n.1.0) in
          let good = not-false (header_good b) n.1.1.1.0 in
          (head_of b, 𝓛.good-head b bytes size good, sym (𝓛.good-header b bytes size good))

  pub header-written-opens : HeaderWrittenOpens C
  unfolding write_header write_header_rows
  header-written-opens h out into ok room roomy =
      let none : NoRow (write_header_rows C h (length out)) = (ap not (true_and keys_right (head_right z h) 𝓛.keys-right (fits-right z h ok)), (le-ltb (length out) z.header room, tt)) in (
        none_ends (write_header_rows C h (length out)) (z.header ∷ []) (filled (header_of h) z.header out) out none
            ∙ ap (λ (x : ℕ). ended (done (x ∷ [])) (filled (header_of h) x out)) (sym (𝓛.header-size h ok)),
        header-opens h into ok roomy,
      )

  pub any_reserved : AnyReserved C
  any_reserved n r k into sn sr sk bn br bk room =
      header-opens (head_with n r k) into (record { nonce-size = sn; key-size = sk; nonce-bytes = bn; key-bytes = bk; reserved-fits = (sr, br) }) room

  pub writes_ff : WritesFF C
  unfolding file_of
  writes_ff n k sn sk bn bk =
      let ok : HeadFits z (own_head n k) =
      record { nonce-size = sn; key-size = sk; nonce-bytes = bn; key-bytes = bk; reserved-fits = (refl, below_replicate reserved_size (lit≤ tt)) } in
      (λ into room. header-opens (own_head n k) into ok room, λ ns p. take_at (header_of (own_head n k)) _ z.header (𝓛.header-size (own_head n k) ok))

-- ---- the chunk

module _ (C : Codec) (𝓛 : ChunkLaws C) where
  open C use {sizes as z, chunk_of, good, plain}

  chunk_opens : (h : Head) (i : ℕ) (n p out : List ℕ) → HeadFits z h → ChunkFits z n p → length p ≤ length out
      → open_chunk C h i (chunk_of h i n p) out ≡ ended (done (length p ∷ [])) (filled p (length p) out)
  unfolding open_chunk open_chunk_rows
  chunk_opens h i n p out ok fits room =
      let c = chunk_of h i n p in
      let l = 𝓛.chunk_size_lem h i n p ok fits.nonce-size in
      let m : length c - z.overhead ≡ length p = omega arith in
      let low = fits.some in
      let high = fits.clear-size in
      let sized = true_and (leb (z.overhead + 1) (length c)) (leb (length c) (stored z)) (le-leb (z.overhead + 1) (length c) (omega arith)) (le-leb (length c) (stored z) (omega arith)) in
      let none : NoRow (open_chunk_rows C h i c (length out)) = (
        ap not (fits-right z h ok),
        (ap not sized, (le-ltb (length out) (length c - z.overhead) (omega arith), (ap not (𝓛.chunk_good h i n p ok fits.nonce-size fits.nonce-bytes fits.clear-bytes), tt))),
      ) in
      none_ends (open_chunk_rows C h i c (length out)) ((length c - z.overhead) ∷ []) (filled (plain h i c) (length c - z.overhead) out) out none
      ∙ rw (m, 𝓛.chunk_plain h i n p ok fits.nonce-size fits.nonce-bytes fits.clear-bytes)

  pub chunk_opens_exactly : ChunkOpensExactly C
  unfolding open_chunk open_chunk_rows
  chunk_opens_exactly h i c out ok bytes room = ((was_written, λ w. (length w.1 ∷ [], ap (λ (e : End). e.outcome) (opens w.0 w.1 w.2 w.3))), opens)
    where
      opens : (n p : List ℕ) → ChunkFits z n p → chunk_of h i n p ≡ c → open_chunk C h i c out ≡ ended (done (length p ∷ [])) (filled p (length p) out)
      opens n p fits e =
          let l : length c ≡ length p + z.overhead = ap length (sym e) ∙ 𝓛.chunk_size_lem h i n p ok fits.nonce-size in
          let k = fits.clear-size in
          let r = room (omega (arith, l, k)) in
          ap (λ (x : List ℕ). open_chunk C h i x out) (sym e) ∙ chunk_opens h i n p out ok fits (omega (arith, l, r))

      was_written : Succeeded (open_chunk C h i c out) → (n : List ℕ) × (p : List ℕ) × ChunkFits z n p × (chunk_of h i n p ≡ c)
      was_written s =
          let r = done_none (open_chunk_rows C h i c (length out)) ((length c - z.overhead) ∷ []) s.0 refl s.1 in
          let sized = and_true (leb (z.overhead + 1) (length c)) (leb (length c) (stored z)) (not-false _ r.1.0) in
          let low = leb-true (z.overhead + 1) (length c) sized.0 in
          let high = leb-true (length c) (stored z) sized.1 in
          let fit = 𝓛.nonce-size in
          let l = 𝓛.plain_size h i c in (
            take z.nonce c,
            plain h i c,
            record {
              nonce-size = length-take-le z.nonce c (omega arith);
              some = omega arith;
              clear-size = omega arith;
              nonce-bytes = below_take z.nonce bytes;
              clear-bytes = 𝓛.plain-bytes h i c ok bytes;
            },
            sym (𝓛.good_chunk h i c ok bytes (omega arith) (not-false (good h i c) r.1.1.1.0)),
          )

  pub chunk_written_opens : ChunkWrittenOpens C
  unfolding write_chunk write_chunk_rows
  chunk_written_opens h i n p out into ok fits room roomy =
      let sized = true_and (head_right z h) (eqb (length n) z.nonce) (fits-right z h ok) (eq-eqb (length n) z.nonce fits.nonce-size) in
      let clear = true_and (leb 1 (length p)) (leb (length p) chunk_size) (le-leb 1 (length p) fits.some) (le-leb (length p) chunk_size fits.clear-size) in
      let none : NoRow (write_chunk_rows C h n p (length out)) = (ap not sized, (ap not clear, (le-ltb (length out) (length p + z.overhead) room, tt))) in (
        none_ends (write_chunk_rows C h n p (length out)) ((length p + z.overhead) ∷ []) (filled (chunk_of h i n p) (length p + z.overhead) out) out none
            ∙ ap (λ (x : ℕ). ended (done (x ∷ [])) (filled (chunk_of h i n p) x out)) (sym (𝓛.chunk_size_lem h i n p ok fits.nonce-size)),
        chunk_opens h i n p into ok fits roomy,
      )
