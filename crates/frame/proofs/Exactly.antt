-- The calls go by their rules, exactly, the lowest row first; and the writers succeed exactly where what they are lent fits.
-- Assumes nothing.
use mathlib.Core.Path.{◌≡◌, refl}
use mathlib.Core.Bool.{true, not}
use mathlib.Core.Logic.{◌↔◌}
use mathlib.Core.List.{[], ◌∷◌}
use Prim.Native.Nat.{◌+◌, ◌-◌}
use lib.ListN.{length}
use lib.Dec.{ltb}
use Rattle.octets.specs.Bytes.{Bytes, filled}
use Rattle.octets.specs.Rows.{refused}
use Rattle.octets.proofs.Tests.{ltb_fails, not_fails}
use Rattle.octets.proofs.Rows.{ends_by, answers_by, succeeds_exactly}
use Rattle.frame.specs.Layout.{Sizes, limit, file_length, clear_length, right_length}
use Rattle.frame.specs.Frame.{Head, Codec, key_size, EightBytes, HeadFits, Fits, file_of, range_rows, read_range, open_rows, open_file, write_rows, write_file}
use Rattle.frame.specs.Single.{file_length_of, clear_length_of, write_header_rows, write_header, open_header_rows, open_header, write_chunk_rows, write_chunk, open_chunk_rows, open_chunk}
use Rattle.frame.specs.Rules.{HeadSizes, file_length_rules, clear_length_rules, write_header_rules, open_header_rules, write_file_rules, open_file_rules, read_range_rules, write_chunk_rules, open_chunk_rules}
use Rattle.frame.specs.Statements.{RowsExactly, RowsAscend, WritesExactly}
use Rattle.frame.specs.SingleStatements.{LengthsExactly, LengthsAscend, SingleRowsExactly, SingleAscend, HeaderWritesExactly, ChunkWritesExactly}
use Rattle.frame.proofs.Rules.{length_exactly, write_header_matches, open_header_matches, write_file_matches, open_file_matches, read_range_matches, write_chunk_matches, open_chunk_matches}

pub lengths_exactly : (z : Sizes) → LengthsExactly z
unfolding file_length_of clear_length_of
lengths_exactly z = (
  λ n. answers_by ((ltb limit n, refused 4) ∷ []) (file_length_rules n) (refl, ltb_fails limit n, tt) refl (file_length z n ∷ []),
  λ l. answers_by ((not (right_length z l), refused 4) ∷ []) (clear_length_rules z l) (refl, not_fails (length_exactly z l), tt) refl (clear_length z l ∷ []),
)

pub lengths_ascend : (z : Sizes) → LengthsAscend z
lengths_ascend z = (λ n. refl, λ l. refl)

-- the sizes of what a header says, and that it is byte strings
fits : (z : Sizes) (h : Head) → HeadSizes z h → Bytes h.nonce → EightBytes h.reserved → Bytes h.key → HeadFits z h
fits z h s bn br bk = record { nonce-size = s.0; key-size = s.1; nonce-bytes = bn; key-bytes = bk; reserved-fits = br }

module _ (C : Codec) where
  open C use {sizes as z, header_of, chunk_of}

  pub chunk_writes_exactly : ChunkWritesExactly C
  unfolding write_chunk write_chunk_rows
  chunk_writes_exactly h i n p out bh br bk bn bp =
      let exact = succeeds_exactly (write_chunk_rows C h n p (length out)) (write_chunk_rules C h n p (length out)) (write_chunk_matches C h n p (length out)) refl ((length p + z.overhead) ∷ []) (filled (chunk_of h i n p) (length p + z.overhead) out) out in (
        λ s.
            let t = exact.0 s in
            (fits z h t.0.0 bh br bk, record { nonce-size = t.0.1; some = t.1.0.0; clear-size = t.1.0.1; nonce-bytes = bn; clear-bytes = bp }, t.1.1.0),
        λ t. exact.1 (((t.0.nonce-size, t.0.key-size), t.1.nonce-size), ((t.1.some, t.1.clear-size), (t.2, tt))),
      )

  module _ (Keys : Type 0) (keys : (C.keys_right ≡ true) ↔ Keys) where
    pub rows_exactly : RowsExactly C Keys
    unfolding range_rows open_rows write_rows read_range open_file write_file
    rows_exactly = (
      λ f from count out.
          ends_by (range_rows C f from count (length out)) (read_range_rules C Keys f from count (length out)) (read_range_matches C Keys keys f from count (length out)) refl (count ∷ []) _ out,
      λ f out.
          ends_by (open_rows C f (length out)) (open_file_rules C Keys f (length out)) (open_file_matches C Keys keys f (length out)) refl (clear_length z (length f) ∷ []) _ out,
      λ c out.
          ends_by (write_rows C c (length out)) (write_file_rules C Keys c (length out)) (write_file_matches C Keys keys c (length out)) refl (file_length z (length c.clear) ∷ []) _ out,
    )

    pub rows_ascend : RowsAscend C Keys
    rows_ascend = (λ f from count room. refl, λ f room. refl, λ c room. refl)

    pub single_rows_exactly : SingleRowsExactly C Keys
    unfolding write_header_rows open_header_rows write_chunk_rows open_chunk_rows write_header open_header write_chunk open_chunk
    single_rows_exactly = (
      λ h out. ends_by (write_header_rows C h (length out)) (write_header_rules C Keys h (length out)) (write_header_matches C Keys keys h (length out)) refl (z.header ∷ []) _ out,
      λ b out. ends_by (open_header_rows C b (length out)) (open_header_rules C Keys b (length out)) (open_header_matches C Keys keys b (length out)) refl (key_size ∷ (C.head_of b).reserved) _ out,
      λ h i n p out.
          ends_by (write_chunk_rows C h n p (length out)) (write_chunk_rules C h n p (length out)) (write_chunk_matches C h n p (length out)) refl ((length p + z.overhead) ∷ []) _ out,
      λ h i c out. ends_by (open_chunk_rows C h i c (length out)) (open_chunk_rules C h i c (length out)) (open_chunk_matches C h i c (length out)) refl ((length c - z.overhead) ∷ []) _ out,
    )

    pub single_ascend : SingleAscend C Keys
    single_ascend = (λ h room. refl, λ b room. refl, λ h n p room. refl, λ h i c room. refl)

    pub header_writes_exactly : HeaderWritesExactly C Keys
    unfolding write_header write_header_rows
    header_writes_exactly h out bn br bk =
        let exact = succeeds_exactly (write_header_rows C h (length out)) (write_header_rules C Keys h (length out)) (write_header_matches C Keys keys h (length out)) refl (z.header ∷ []) (filled (header_of h) z.header out) out in (
          λ s. let t = exact.0 s in (t.0.0, fits z h t.0.1 bn br bk, t.1.0),
          λ t. exact.1 ((t.0, (t.1.nonce-size, t.1.key-size)), (t.2, tt)),
        )

    pub writes_exactly : WritesExactly C Keys
    unfolding write_file write_rows
    writes_exactly c out bh br bk bn bc =
        let exact = succeeds_exactly (write_rows C c (length out)) (write_file_rules C Keys c (length out)) (write_file_matches C Keys keys c (length out)) refl (file_length z (length c.clear) ∷ []) (filled (file_of C c) (file_length z (length c.clear)) out) out in (
          λ s.
              let t = exact.0 s in
              let choice : Fits z c =
              record {
                head-fits = fits z c.head t.0.1 bh br bk;
                nonces-size = t.0.2;
                clear-size = t.1.0;
                nonces-bytes = bn;
                clear-bytes = bc;
              } in
              (t.0.0, choice, t.1.1.0, t.1.1.1.0),
          λ t.
              let h = t.1.head-fits in
              exact.1 ((t.0, (h.nonce-size, h.key-size), t.1.nonces-size), (t.1.clear-size, (t.2, (t.3, tt)))),
        )
