-- Neighbouring reads add up, and reads beside a mended range stay, for every record and every reader.
-- Assumes nothing.
use mathlib.Core.Path.{◌≡◌, sym, ap, ◌∙◌, subst}
use mathlib.Core.Bool.{true}
use mathlib.Core.Logic.{◌↔◌}
use mathlib.Core.List.{List, [], ◌∷◌}
use Prim.Native.Nat.{ℕ}
use lib.ListN.{length}
use Rattle.octets.specs.Rows.{done}
use Rattle.frame.specs.Layout.{Sizes, clear_length, right_length, header_at, Inside}
use Rattle.frame.specs.Frame.{Codec, read_range}
use Rattle.frame.specs.Laws.{Laws}
use Rattle.frame.specs.Rules.{KeySizes}
use Rattle.frame.proofs.Rules.{length_exactly}
use Rattle.mend_spec.specs.Statements.{Mending, after}
use Rattle.mend_spec.proofs.Ends.{Mends}
use Rattle.mend_spec.proofs.After.{g_header, mends_of, after_is, mended-rest}
use Rattle.reader_spec.specs.Reader.{Making, reader_with, open_reader}
use Rattle.reader_spec.proofs.Making.{passes, opened_by}
use Rattle.vault.specs.declared.record.Combo.{Combo}
use Rattle.vault.specs.declared.record.Combo.TheVariants.{SivGcm, SivCtrmac}
use Rattle.vault.specs.declared.record.Vault.{Vault}
use Rattle.vault.specs.Vault.{sizes_of, codec_with, codec_of, Keys}
use Rattle.vault.proofs.Combos.{sized_exactly, chunk_laws, laws, two_combos}
use Rattle.file_reader.specs.Kept.{Kept, keys_with, mac_for, open_kept, read_kept}
use Rattle.file_reader.specs.Demands.{Passes}
use Rattle.file_reader.proofs.Demands.{holds, reads_as_range}
use Rattle.neighbours.specs.Neighbours.{NeighboursAddUp}
use Rattle.neighbours.specs.Statements.{RangesAddUp, RangesStay}
use Rattle.neighbours.specs.Demands.{ReadsAddUp, KeptStay, NeighboursDemand}
use Rattle.neighbours.proofs.AddingUp.{ranges_add_up, through_add_up, by_making}
use Rattle.neighbours.proofs.Beside.{ranges_stay}

-- ---- adding up

ranges : (v : Vault) → RangesAddUp (codec_of v)
ranges v = ranges_add_up (codec_of v) (chunk_laws v.combo v.enc v.mac).plain_size

-- the same, with the sizes by the combo
pub ranges_sized : (v : Vault) (f : List ℕ) → NeighboursAddUp (read_range (codec_of v) f) (Inside (sizes_of v.combo) (length f))
ranges_sized v f = subst (λ (z : Sizes). NeighboursAddUp (read_range (codec_of v) f) (Inside z (length f))) (two_combos.1 v) (ranges v f)

-- through any reader
held : (c : Combo) (content mac f : List ℕ) → NeighboursAddUp (read_kept (keys_with content mac c) f) (Inside (sizes_of c) (length f))
unfolding read_kept
held SivGcm content mac f = through_add_up (codec_with SivGcm [] mac) (chunk_laws SivGcm [] mac).plain_size (reader_with f content)
held SivCtrmac content mac f = through_add_up (codec_with SivCtrmac [] mac) (chunk_laws SivCtrmac [] mac).plain_size (reader_with f content)

-- through the one that was made for f, or that a refusal gave
module _ (v : Vault) (f : List ℕ) where
  abbrev C : Codec
  C = codec_of v

  sized : (C.keys_right ≡ true) ↔ KeySizes v.enc v.mac
  sized = sized_exactly v.combo v.enc v.mac

  made : NeighboursAddUp (read_kept (open_kept v f).keys (open_kept v f).file) (Inside (sizes_of v.combo) (length f))
  unfolding open_reader
  made =
      by_making (Inside (sizes_of v.combo) (length f)) _ (read_range C f) (open_reader C f).outcome
      (λ s from count out. (reads_as_range v f from count out).0 (passes C (KeySizes v.enc v.mac) sized f s.0 s.1))
      (λ n from count out. (reads_as_range v f from count out).1 (λ p. n (_, ap (λ (m : Making). m.outcome) (opened_by C (KeySizes v.enc v.mac) sized f p))))
      (ranges_sized v f)

pub reads_add_up : ReadsAddUp
reads_add_up = (ranges, λ k f. held k.combo k.content k.mac f, made)

-- ---- beside a mend

module _ (v : Vault) (f : List ℕ) (from : ℕ) (new nonces : List ℕ) (keys : Keys v) (m : Mending (codec_of v) f from new nonces) where
  abbrev D : Codec
  D = codec_of v

  abbrev g : List ℕ
  g = after D f from new nonces

  𝓛 : Laws D
  𝓛 = laws v.combo v.enc v.mac keys.enc-size keys.mac-size keys.enc-bytes

  o : Mends D f from new nonces
  o = mends_of D 𝓛 f from new nonces m

  pub same_length : length g ≡ length f
  same_length = (mended-rest D 𝓛 f from new nonces m).0

  pub same-header : header_at D.sizes g ≡ header_at D.sizes f
  same-header = ap (header_at D.sizes) (after_is D 𝓛 f from new nonces m) ∙ g_header D 𝓛 f from new nonces m.file-bytes m.new_bytes m.nonces-bytes o

  pub passes_before : Passes v f
  unfolding header_at
  passes_before = ((keys.enc-size, keys.mac-size), (length_exactly D.sizes (length f)).0 o.inside.right, o.headed)

  passes_after : Passes v g
  unfolding header_at
  passes_after = (
    passes_before.0,
    (length_exactly D.sizes (length g)).0 (ap (λ (n : ℕ). right_length D.sizes n) same_length ∙ o.inside.right),
    ap D.header_good same-header ∙ o.headed,
  )

pub stay : (v : Vault) → Keys v → RangesStay (codec_of v)
stay v keys = ranges_stay (codec_of v) (laws v.combo v.enc v.mac keys.enc-size keys.mac-size keys.enc-bytes)

pub kept_stay : (v : Vault) → Keys v → KeptStay v
kept_stay v keys f from new nonces m =
    let D = codec_of v in
    let g = after D f from new nonces in
    let p = passes_before v f from new nonces keys m in
    let q = passes_after v f from new nonces keys m in
    let before = holds v f p in
    let anew = holds v g q in (
      λ at count out none. (reads_as_range v g at count out).0 q ∙ stay v keys f from new nonces m at count out none ∙ sym ((reads_as_range v f at count out).0 p),
      ap (λ (x : Kept). x.outcome) anew ∙ ap (λ (n : ℕ). done (clear_length D.sizes n ∷ [])) (same_length v f from new nonces keys m) ∙ sym (ap (λ (x : Kept). x.outcome) before),
      ap (λ (x : Kept). x.keys) anew
          ∙ ap (λ (b : List ℕ). keys_with (D.head_of b).key (mac_for v.combo v.mac) v.combo) (same-header v f from new nonces keys m)
          ∙ sym (ap (λ (x : Kept). x.keys) before),
      ap (λ (x : Kept). x.file) anew,
    )

pub neighbours_demand : NeighboursDemand
neighbours_demand = (reads_add_up, λ v keys. (stay v keys, kept_stay v keys))
