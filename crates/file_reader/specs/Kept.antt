-- A kept reader under the vault's record: the keys that it holds; what its making ends in (`open_kept`, by `open_reader`); and what a read through it ends in (`read_kept`, by
-- `read_through`).
-- Assumes nothing.
use Rattle.std.specs.Prelude.{ℕ, List, [], replicate}
use Rattle.octets.specs.Rows.{Outcome, done, refused, refused_at, End}
use Rattle.frame.specs.Frame.{Codec, key_size}
use Rattle.reader_spec.specs.Reader.{Making, reader_with, open_reader, read_through}
use Rattle.vault.specs.declared.record.Combo.{Combo}
use Rattle.vault.specs.declared.record.Combo.TheVariants.{SivGcm, SivCtrmac}
use Rattle.vault.specs.declared.record.Vault.{Vault}
use Rattle.vault.specs.Vault.{codec_with, codec_of}
use Rattle.file_reader.specs.declared.keys.ReaderKeys.{ReaderKeys}

-- ---- the keys

abbrev pub keys_with : List ℕ → List ℕ → Combo → ReaderKeys
keys_with content mac combo = record { content = content; mac = mac; combo = combo }

-- The MAC master key, where the combo needs it to read a chunk: SIV_CTRMAC does; in SIV_GCM zeros stand for it.
abbrev pub mac_for : Combo → List ℕ → List ℕ
mac_for SivGcm mac = replicate key_size 0
mac_for SivCtrmac mac = mac

-- A success gives the content key k and what the combo needs; a refusal no key, for which zeros stand.
abbrev pub keys_by : Outcome → Vault → List ℕ → ReaderKeys
keys_by (done lengths) v k = keys_with k (mac_for v.combo v.mac) v.combo
keys_by (refused row) v k = keys_with (replicate key_size 0) (replicate key_size 0) v.combo
keys_by (refused_at row at) v k = keys_with (replicate key_size 0) (replicate key_size 0) v.combo

-- ---- the making

-- What it ends in: its answer; and a reader, by the bytes of the file and the keys that it holds.
pub record Kept : Type 0 where
  pub outcome : Outcome
  pub file : List ℕ
  pub keys : ReaderKeys

abbrev pub kept_with : Outcome → List ℕ → ReaderKeys → Kept
kept_with o f k = record { outcome = o; file = f; keys = k }

abbrev pub kept_by : Vault → Making → Kept
kept_by v m = kept_with m.outcome m.reader.file (keys_by m.outcome v m.reader.key)

unfoldable pub open_kept : Vault → List ℕ → Kept
open_kept v f = kept_by v (open_reader (codec_of v) f)

-- What a reader holds of the file f, by the answer of its making: all of it, or nothing.
abbrev pub file_by : Outcome → List ℕ → List ℕ
file_by (done lengths) f = f
file_by (refused row) f = []
file_by (refused_at row at) f = []

-- ---- a read

-- The combo under the keys of a reader. No bytes stand for the encryption master key, which a reader does not hold and chunks do not depend on.
abbrev pub codec_held : ReaderKeys → Codec
codec_held k = codec_with k.combo [] k.mac

-- What reading count bytes from `from` on ends in, through the reader that holds the bytes f and the keys k, into the buffer `out`.
unfoldable pub read_kept : ReaderKeys → List ℕ → ℕ → ℕ → List ℕ → End
read_kept k f from count out = read_through (codec_held k) (reader_with f k.content) from count out
