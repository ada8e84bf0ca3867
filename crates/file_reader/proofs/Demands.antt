-- The demands on a kept reader, for every record and every reader.
-- Assumes nothing.
use Prim.Native.Nat.{ℕ}
use mathlib.Core.Path.{◌≡◌, refl, sym, ap, ◌∙◌}
use mathlib.Core.Logic.{◌↔◌}
use mathlib.Core.Bool.{true}
use mathlib.Core.List.{List, [], ◌∷◌}
use lib.ListN.{length, take, replicate}
use Rattle.octets.specs.Rows.{Outcome, done, refused, refused_at}
use Rattle.frame.specs.Layout.{clear_length, header_at}
use Rattle.frame.specs.Frame.{Codec, head_in, read_range}
use Rattle.frame.specs.Rules.{KeySizes}
use Rattle.reader_spec.specs.Reader.{Reader, reader_with, reader_of, open_reader, clear_through, bad_through, through_rows, read_through}
use Rattle.reader_spec.proofs.Making.{passes, opened_by, refused_by}
use Rattle.reader_spec.proofs.Through.{through_exactly, rows_four_to_seven, through_row_ten, reads_alike, reader_exactly}
use Rattle.vault.specs.declared.record.Combo.{Combo}
use Rattle.vault.specs.declared.record.Combo.TheVariants.{SivGcm, SivCtrmac}
use Rattle.vault.specs.declared.record.Vault.{Vault}
use Rattle.vault.specs.Vault.{codec_with, codec_of}
use Rattle.vault.proofs.Combos.{sized_exactly}
use Rattle.file_reader.specs.Kept.{Kept, keys_with, mac_for, keys_by, kept_with, kept_by, open_kept, codec_held, read_kept}
use Rattle.file_reader.specs.Demands.{Passes, HoldsExactly, ReadsAsRange, ReadKeys, ReaderDemand}
use Rattle.file_reader.proofs.Combos.{reader_laws, none_held}

-- ---- the keys that a read depends on

by_keys : (c : Combo) (enc content mac f : List ℕ) (from count : ℕ) (out : List ℕ) → read_kept (keys_with content mac c) f from count out ≡ read_through (codec_with c enc mac) (reader_with f content) from count out
unfolding read_kept read_through through_rows clear_through bad_through
by_keys SivGcm enc content mac f from count out = refl
by_keys SivCtrmac enc content mac f from count out = refl

pub read_keys : ReadKeys
unfolding read_kept read_through through_rows clear_through bad_through
read_keys = (λ k enc f from count out. by_keys k.combo enc k.content k.mac f from count out, λ k mac mac' f from count out. refl)

-- a read by the keys that are kept is one under all keys of the record
all_keys : (c : Combo) (enc mac k f : List ℕ) (from count : ℕ) (out : List ℕ) → read_kept (keys_with k (mac_for c mac) c) f from count out ≡ read_through (codec_with c enc mac) (reader_with f k) from count out
unfolding read_kept read_through through_rows clear_through bad_through
all_keys SivGcm enc mac k f from count out = refl
all_keys SivCtrmac enc mac k f from count out = refl

module _ (v : Vault) (f : List ℕ) where
  abbrev C : Codec
  C = codec_of v

  abbrev Sized : Type 0
  Sized = KeySizes v.enc v.mac

  abbrev none : List ℕ
  none = replicate 32 0

  sized : (C.keys_right ≡ true) ↔ Sized
  sized = sized_exactly v.combo v.enc v.mac

  pub holds : Passes v f → open_kept v f ≡ kept_with (done (clear_length C.sizes (length f) ∷ [])) f (keys_with (C.head_of (header_at C.sizes f)).key (mac_for v.combo v.mac) v.combo)
  unfolding open_kept reader_of head_in header_at
  holds o = ap (kept_by v) (opened_by C Sized sized f o)

  pub no_keys : (Passes v f → ⊥) → (open_kept v f).keys ≡ keys_with none none v.combo
  unfolding open_kept open_reader
  no_keys n = go (open_reader C f).outcome refl
    where
      go : (o : Outcome) → (open_reader C f).outcome ≡ o → keys_by o v (open_reader C f).reader.key ≡ keys_with none none v.combo
      go (done l) e = absurd (n (passes C Sized sized f l e))
      go (refused row) e = refl
      go (refused_at row i) e = refl

  no_file : (Passes v f → ⊥) → (open_kept v f).file ≡ []
  unfolding open_kept
  no_file n = ap (λ (r : Reader). r.file) (refused_by C Sized sized f n)

  -- a read of bytes that begin with the same header
  pub same-header : Passes v f → (g : List ℕ) → take C.sizes.header g ≡ take C.sizes.header f
      → (from count : ℕ) (out : List ℕ) → read_kept (open_kept v f).keys g from count out ≡ read_range C g from count out
  unfolding reader_of head_in header_at
  same-header o g e from count out =
      ap (λ (m : Kept). read_kept m.keys g from count out) (holds o)
      ∙ all_keys v.combo v.enc v.mac _ g from count out
      ∙ ap (λ (b : List ℕ). read_through C (reader_with g (C.head_of b).key) from count out) (sym e)
      ∙ reads_alike C (reader_laws v.combo v.enc v.mac) g (sized.1 o.0) (ap C.header_good e ∙ o.2) from count out

pub holds_exactly : HoldsExactly
unfolding open_kept header_at
holds_exactly v f = (
  refl,
  λ o. ap (λ (m : Kept). m.file) (holds v f o),
  no_file v f,
  λ o.
      let e = ap (λ (m : Kept). m.keys) (holds v f o) in
      let k = ((C v f).head_of (header_at (C v f).sizes f)).key in
      let by : (c : Combo) → v.combo ≡ c → (open_kept v f).keys ≡ keys_with k (mac_for c v.mac) c = λ c q. e ∙ ap (λ (x : Combo). keys_with k (mac_for x v.mac) x) q in
      (by SivGcm, by SivCtrmac),
  no_keys v f,
)

pub reads_as_range : ReadsAsRange
reads_as_range v f from count out = (
  λ o. ap (λ (m : Kept). read_kept (open_kept v f).keys m.file from count out) (holds v f o) ∙ same-header v f o f refl from count out,
  λ n. ap (λ (g : List ℕ). read_kept (open_kept v f).keys g from count out) (no_file v f n) ∙ none_held (open_kept v f).keys from count out,
  λ o g e. same-header v f o g e from count out,
)

pub reader_demand : ReaderDemand
reader_demand = (
  λ v. reader_exactly (codec_of v) (reader_laws v.combo v.enc v.mac) (KeySizes v.enc v.mac) (sized_exactly v.combo v.enc v.mac),
  λ k. (through_exactly (codec_held k), rows_four_to_seven (codec_held k), through_row_ten (codec_held k)),
  holds_exactly,
  reads_as_range,
  read_keys,
)
