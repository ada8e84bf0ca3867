-- What a kept reader asks of a combo, and what its making and a read through it end in, in either combo.
-- Assumes nothing.
use Prim.Native.Nat.{ℕ, ◌+◌, ◌≤◌, ◌<◌}
use mathlib.Core.Path.{◌≡◌, refl, sym, ap, ◌∙◌}
use mathlib.Core.Bool.{true, false}
use mathlib.Core.List.{List, [], ◌∷◌}
use native.Mathlib.Omega.{arith}
use borrow.Author.Tests.{le-ltb}
use lib.Dec.{lit≤}
use lib.ListN.{length, take, replicate}
use Rattle.octets.specs.Rows.{done, refused, answer, ended}
use Rattle.octets.proofs.Equality.{true_false}
use Rattle.frame.specs.Layout.{clear_length, right_length, header_at}
use Rattle.frame.specs.Frame.{Codec}
use Rattle.frame.specs.Rules.{KeySizes}
use Rattle.frame.proofs.KeySizes.{keys_exactly}
use Rattle.frame.proofs.Lengths.{right-short}
use Rattle.frame.proofs.Rules.{length_exactly}
use Rattle.reader_spec.specs.Reader.{Making, reader_with, open_reader, clear_through, bad_through, through_rows, read_through}
use Rattle.reader_spec.specs.Statements.{ReaderLaws}
use Rattle.reader_spec.proofs.Making.{making_exactly}
use Rattle.reader_spec.proofs.Through.{rows_four_to_seven}
use Rattle.siv_gcm.specs.SivGcm as gcm
use Rattle.siv_ctrmac.specs.SivCtrmac as ctrmac
use Rattle.vault.specs.declared.record.Combo.{Combo}
use Rattle.vault.specs.declared.record.Combo.TheVariants.{SivGcm, SivCtrmac}
use Rattle.vault.specs.declared.record.Vault.{Vault}
use Rattle.vault.specs.Vault.{sizes_of, codec_with}
use Rattle.vault.proofs.Combos.{codec_by, codec_by_lem}
use Rattle.file_parts.specs.Under.{bad_under}
use Rattle.file_range.specs.Under.{read_under}
use Rattle.file_reader.specs.declared.keys.ReaderKeys.{ReaderKeys}
use Rattle.file_reader.specs.Kept.{keys_with, mac_for, kept_with, kept_by, open_kept, read_kept}

pub reader_laws : (c : Combo) (enc mac : List ℕ) → ReaderLaws (codec_with c enc mac)
unfolding gcm.head_of ctrmac.head_of
reader_laws SivGcm enc mac = record { header-some = lit≤ tt; nonce-within = lit≤ tt; nonce-first = λ b. refl; good_alike = λ n r r' k. refl; plain_alike = λ n r r' k. refl }
reader_laws SivCtrmac enc mac = record { header-some = lit≤ tt; nonce-within = lit≤ tt; nonce-first = λ b. refl; good_alike = λ n r r' k. refl; plain_alike = λ n r r' k. refl }

-- ---- the making

module _ (v : Vault) (f : List ℕ) (keyed : KeySizes v.enc v.mac) where
  abbrev C : Codec
  C = codec_by v.combo v.enc v.mac

  abbrev none : List ℕ
  none = replicate 32 0

  kept_by_lem : (m : Making) → open_reader C f ≡ m → open_kept v f ≡ kept_by v m
  unfolding open_kept
  kept_by_lem m e = ap (λ (x : Codec). kept_by v (open_reader x f)) (sym (codec_by_lem v.combo v.enc v.mac)) ∙ ap (kept_by v) e

  pub opens_4 : right_length (sizes_of v.combo) (length f) ≡ false → open_kept v f ≡ kept_with (refused 4) [] (keys_with none none v.combo)
  opens_4 r =
      kept_by_lem _ ((making_exactly C (KeySizes v.enc v.mac) (keys_exactly v.enc v.mac) f).1.0.1 ((tt, keyed), λ l. true_false (sym ((length_exactly (sizes_of v.combo) (length f)).1 l) ∙ r)))

  pub opens_9 : right_length (sizes_of v.combo) (length f) ≡ true → C.header_good (header_at (sizes_of v.combo) f) ≡ false → open_kept v f ≡ kept_with (refused 9) [] (keys_with none none v.combo)
  unfolding header_at
  opens_9 r h =
      kept_by_lem _ ((making_exactly C (KeySizes v.enc v.mac) (keys_exactly v.enc v.mac) f).1.1.0.1 (((tt, keyed), (length_exactly (sizes_of v.combo) (length f)).0 r), λ g. true_false (sym g ∙ h)))

  pub opens : right_length (sizes_of v.combo) (length f) ≡ true → C.header_good (header_at (sizes_of v.combo) f) ≡ true
      → open_kept v f ≡ kept_with (done (clear_length (sizes_of v.combo) (length f) ∷ [])) f (keys_with (C.head_of (header_at (sizes_of v.combo) f)).key (mac_for v.combo v.mac) v.combo)
  unfolding header_at
  opens r h =
      kept_by_lem _ ((making_exactly C (KeySizes v.enc v.mac) (keys_exactly v.enc v.mac) f).1.1.1.1 (((tt, keyed), (length_exactly (sizes_of v.combo) (length f)).0 r), h))

-- ---- a read

module _ (k : ReaderKeys) (f : List ℕ) (from count : ℕ) (out : List ℕ) where
  by_combo : read_through (codec_by k.combo [] k.mac) (reader_with f k.content) from count out ≡ read_kept k f from count out
  unfolding read_kept
  by_combo = ap (λ (x : Codec). read_through x (reader_with f k.content) from count out) (codec_by_lem k.combo [] k.mac)

  pub refused_4 : right_length (sizes_of k.combo) (length f) ≡ false → ended (refused 4) out ≡ read_kept k f from count out
  refused_4 r =
      sym ((rows_four_to_seven (codec_by k.combo [] k.mac) (reader_with f k.content) from count out).0.1 (λ l. true_false (sym ((length_exactly (sizes_of k.combo) (length f)).1 l) ∙ r))) ∙ by_combo

  module _ (r : right_length (sizes_of k.combo) (length f) ≡ true) where
    pub refused_6 : clear_length (sizes_of k.combo) (length f) < from + count → ended (refused 6) out ≡ read_kept k f from count out
    refused_6 h =
        sym ((rows_four_to_seven (codec_by k.combo [] k.mac) (reader_with f k.content) from count out).1.1 ((length_exactly (sizes_of k.combo) (length f)).0 r, λ w. omega (arith, h, w))) ∙ by_combo

    pub refused_7 : from + count ≤ clear_length (sizes_of k.combo) (length f) → length out < count → ended (refused 7) out ≡ read_kept k f from count out
    refused_7 w h =
        sym ((rows_four_to_seven (codec_by k.combo [] k.mac) (reader_with f k.content) from count out).2.1 ((length_exactly (sizes_of k.combo) (length f)).0 r, w, λ m. omega (arith, h, m))) ∙ by_combo

-- through no bytes
some-header : (c : Combo) → 0 < (sizes_of c).header
some-header SivGcm = lit≤ tt
some-header SivCtrmac = lit≤ tt

pub none_held : (k : ReaderKeys) (from count : ℕ) (out : List ℕ) → read_kept k [] from count out ≡ ended (refused 4) out
none_held k from count out = sym (refused_4 k [] from count out (right-short (sizes_of k.combo) 0 (some-header k.combo)))

-- where no row before 10 applies, it is reading under the nonce that the file begins with and the keys of the reader
pub kept_under : (c : Combo) (content mac f : List ℕ) (from count : ℕ) (out : List ℕ) → right_length (sizes_of c) (length f) ≡ true → from + count ≤ clear_length (sizes_of c) (length f) → count ≤ length out
    → read_kept (keys_with content mac c) f from count out ≡ read_under c mac (take (sizes_of c).nonce f) content f from count out
unfolding read_kept read_through through_rows clear_through bad_through answer bad_under read_under
kept_under SivGcm content mac f from count out r w m = rw (r, le-ltb (clear_length gcm.siv_gcm (length f)) (from + count) w, le-ltb (length out) count m)
kept_under SivCtrmac content mac f from count out r w m = rw (r, le-ltb (clear_length ctrmac.siv_ctrmac (length f)) (from + count) w, le-ltb (length out) count m)
