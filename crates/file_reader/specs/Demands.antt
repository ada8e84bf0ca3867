-- The demands on a kept reader, for every record and every reader.
-- Assumes nothing.
use Rattle.std.specs.Prelude.{ℕ, ◌≡◌, true, List, [], length, take, replicate}
use Rattle.octets.specs.Rows.{refused, ended}
use Rattle.frame.specs.Frame.{read_range}
use Rattle.frame.specs.Rules.{KeySizes, FileLength}
use Rattle.reader_spec.specs.Reader.{reader_with, open_reader, read_through}
use Rattle.reader_spec.specs.Statements.{ThroughExactly, ThroughRowsFourToSeven, ThroughRowTen, ReaderExactly}
use Rattle.vault.specs.declared.record.Combo.TheVariants.{SivGcm, SivCtrmac}
use Rattle.vault.specs.declared.record.Vault.{Vault}
use Rattle.vault.specs.Vault.{codec_with, codec_of}
use Rattle.file_reader.specs.declared.keys.ReaderKeys.{ReaderKeys}
use Rattle.file_reader.specs.Kept.{keys_with, open_kept, codec_held, read_kept}

-- The header of f passes: the record's keys have their sizes, the length of f is that of a file, and its header is good.
abbrev pub Passes : Vault → List ℕ → Type 0
Passes v f = let C = codec_of v in KeySizes v.enc v.mac × FileLength C.sizes (length f) × (C.header_good (take C.sizes.header f) ≡ true)

-- The answer of the making is that of `open_reader` under the record. Where the header passes, the reader holds all of f and the content key, in SIV_CTRMAC with the MAC master
-- key and in SIV_GCM with zeros; where it does not, no byte, and zeros.
abbrev pub HoldsExactly : Type 0
HoldsExactly =
    (v : Vault) (f : List ℕ) →
    let C = codec_of v in
    let m = open_kept v f in
    let none : List ℕ = replicate 32 0 in
    let k = (C.head_of (take C.sizes.header f)).key in
    (m.outcome ≡ (open_reader C f).outcome)
    × (Passes v f → m.file ≡ f)
    × ((Passes v f → ⊥) → m.file ≡ [])
    × (Passes v f → (v.combo ≡ SivGcm → m.keys ≡ keys_with k none SivGcm) × (v.combo ≡ SivCtrmac → m.keys ≡ keys_with k v.mac SivCtrmac))
    × ((Passes v f → ⊥) → m.keys ≡ keys_with none none v.combo)

-- Every read through the reader that was made for f under v ends as the range read of f under v, answer and buffer; through the one that a refusal gave, by row 4. A read by the
-- same keys of any other bytes that begin with the same header, as those of f after a mend do, ends as the range read of these bytes.
abbrev pub ReadsAsRange : Type 0
ReadsAsRange =
    (v : Vault) (f : List ℕ) (from count : ℕ) (out : List ℕ) →
    let C = codec_of v in
    let m = open_kept v f in
    let e = read_kept m.keys m.file from count out in
    (Passes v f → e ≡ read_range C f from count out)
    × ((Passes v f → ⊥) → e ≡ ended (refused 4) out)
    × (Passes v f → (g : List ℕ) → take C.sizes.header g ≡ take C.sizes.header f → read_kept m.keys g from count out ≡ read_range C g from count out)

-- A read by any keys is one through the reader of the content key, in their combo and under their MAC key, whatever stands for the encryption master key; and in SIV_GCM no read
-- depends on the MAC key.
abbrev pub ReadKeys : Type 0
ReadKeys =
    ((k : ReaderKeys) (enc f : List ℕ) (from count : ℕ) (out : List ℕ)
    → read_kept k f from count out ≡ read_through (codec_with k.combo enc k.mac) (reader_with f k.content) from count out)
    × ((k mac mac' f : List ℕ) (from count : ℕ) (out : List ℕ) → read_kept (keys_with k mac SivGcm) f from count out ≡ read_kept (keys_with k mac' SivGcm) f from count out)

-- The making and the reads go by their rules for every record; so does a read through any reader, also a hand-made one, under the keys that it holds.
abbrev pub ReaderDemand : Type 0
ReaderDemand =
    ((v : Vault) → ReaderExactly (codec_of v) (KeySizes v.enc v.mac))
    × ((k : ReaderKeys) → let C = codec_held k in ThroughExactly C × ThroughRowsFourToSeven C × ThroughRowTen C)
    × HoldsExactly × ReadsAsRange × ReadKeys
