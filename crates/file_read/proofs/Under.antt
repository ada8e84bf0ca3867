-- How a read under the MAC master key and a header's nonce and content key is the range read, in either combo.
-- Assumes nothing.
use Prim.Native.Nat.{ℕ, ◌+◌, ◌≤◌}
use mathlib.Core.Path.{◌≡◌, sym}
use mathlib.Core.Bool.{true, false}
use mathlib.Core.List.{List}
use borrow.Author.Tests.{le-ltb}
use lib.Dec.{lit≤}
use lib.ListN.{length, take}
use lib.Seq.{take-take}
use Rattle.octets.specs.Rows.{refused, answer, ended}
use Rattle.frame.specs.Layout.{clear_length, right_length, header_at}
use Rattle.frame.specs.Frame.{head_in, clear_of, bad_chunk, range_rows, read_range}
use Rattle.frame.proofs.Success.{read_ends}
use Rattle.frame.proofs.Answers.{row_9}
use Rattle.siv_gcm.specs.SivGcm as gcm
use Rattle.siv_ctrmac.specs.SivCtrmac as ctrmac
use Rattle.vault.specs.declared.record.Combo.{Combo}
use Rattle.vault.specs.declared.record.Combo.TheVariants.{SivGcm, SivCtrmac}
use Rattle.vault.specs.Vault.{sizes_of, codec_with}
use Rattle.file_parts.specs.Under.{bad_under}
use Rattle.file_range.specs.Under.{read_under}

-- where no row before 9 applies: row 9 itself; and where it does not apply, reading a range is reading under the nonce and the content key of the
-- header, whose reserved bytes do not matter
module _ (enc mac f : List ℕ) (from count : ℕ) (out : List ℕ) where
  pub refused_9 : (c : Combo) → (codec_with c enc mac).keys_right ≡ true → right_length (sizes_of c) (length f) ≡ true → from + count ≤ clear_length (sizes_of c) (length f) → count ≤ length out
      → (codec_with c enc mac).header_good (header_at (sizes_of c) f) ≡ false → ended (refused 9) out ≡ read_range (codec_with c enc mac) f from count out
  refused_9 SivGcm k r w m h = sym (read_ends (gcm.codec enc mac) f from count out (refused 9) (row_9 _ _ _ _ _ _ k r w m h))
  refused_9 SivCtrmac k r w m h = sym (read_ends (ctrmac.codec enc mac) f from count out (refused 9) (row_9 _ _ _ _ _ _ k r w m h))

  pub read_under_lem : (c : Combo) → (codec_with c enc mac).keys_right ≡ true → right_length (sizes_of c) (length f) ≡ true → from + count ≤ clear_length (sizes_of c) (length f) → count ≤ length out
      → (codec_with c enc mac).header_good (header_at (sizes_of c) f) ≡ true
      → read_range (codec_with c enc mac) f from count out ≡ read_under c mac (take (sizes_of c).nonce f) ((codec_with c enc mac).head_of (header_at (sizes_of c) f)).key f from count out
  unfolding read_range range_rows answer clear_of bad_chunk bad_under read_under head_in header_at gcm.head_of ctrmac.head_of
  read_under_lem SivGcm k r w m g = rw (k, r, le-ltb (clear_length gcm.siv_gcm (length f)) (from + count) w, le-ltb (length out) count m, g, take-take 12 68 f (lit≤ tt))
  read_under_lem SivCtrmac k r w m g = rw (k, r, le-ltb (clear_length ctrmac.siv_ctrmac (length f)) (from + count) w, le-ltb (length out) count m, g, take-take 16 88 f (lit≤ tt))
