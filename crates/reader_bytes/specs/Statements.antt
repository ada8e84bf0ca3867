-- What the theorems say of a reader as bytes.
-- Assumes nothing.
use Rattle.std.specs.Prelude.{ℕ, ◌≤◌, ◌<◌, ◌≡◌, ◌↔◌, true, List, [], ◌∷◌, ◌++◌, length, take, drop, get_or, replicate}
use Rattle.octets.specs.Bytes.{filled}
use Rattle.octets.specs.Rows.{done, refused, Rule, Exactly, numbers, ended, Succeeded}
use Rattle.frame.specs.Layout.{clear_length}
use Rattle.frame.specs.Frame.{read_range}
use Rattle.frame.specs.Rules.{KeySizes, FileLength}
use Rattle.vault.specs.declared.record.Combo.TheVariants.{SivGcm, SivCtrmac}
use Rattle.vault.specs.declared.record.Vault.{Vault}
use Rattle.vault.specs.Vault.{codec_of}
use Rattle.vault_bytes.specs.VaultBytes.{vault_in, lent_end}
use Rattle.vault_bytes.specs.Statements.{KnownCombo}
use Rattle.file_reader.specs.Kept.{keys_with, open_kept, read_kept}
use Rattle.reader_bytes.specs.ReaderBytes.{combo_number, no_bytes_in, store_reader, store_lent, read_lent}

-- The reader of no bytes: a buffer of fewer than 65 bytes stays, and of any other the first 65 are zeros, and the rest stays.
abbrev pub NoBytesStored : Type 0
NoBytesStored =
    (out : List ℕ)
    → (length out < 65 → no_bytes_in out ≡ out)
    × (65 ≤ length out → no_bytes_in out ≡ replicate 65 0 ++ drop 65 out)

-- The numbers of the combos; those of a vault are the same (`vault_bytes/Statements.LentExactly`).
abbrev pub ReaderNumbers : Type 0
ReaderNumbers = (combo_number SivGcm ≡ 1) × (combo_number SivCtrmac ≡ 2)

-- Making: the master keys have 32 bytes (1), the length of f is that of a file (4), there is room for 65 bytes (7), the header is good (9).
abbrev pub store_reader_rules : Vault → List ℕ → ℕ → List Rule
store_reader_rules v f room =
    let C = codec_of v in
    (KeySizes v.enc v.mac, refused 1)
    ∷ (FileLength C.sizes (length f), refused 4)
    ∷ (65 ≤ room, refused 7)
    ∷ (C.header_good (take C.sizes.header f) ≡ true, refused 9)
    ∷ []

-- The making goes by its rules, exactly, in the order of their numbers: a row leaves the reader of no bytes; a success returns the cleartext's length and leaves the keys of the
-- reader at the front of the buffer, its content key, its MAC key and the number of its combo.
abbrev pub ReaderStoresExactly : Type 0
ReaderStoresExactly =
    (v : Vault) (f out : List ℕ) →
    let e = store_reader v f out in
    let k = (open_kept v f).keys in
    Exactly (λ o. e ≡ ended o (no_bytes_in out)) (e ≡ ended (done (clear_length (codec_of v).sizes (length f) ∷ [])) (filled (k.content ++ k.mac ++ combo_number k.combo ∷ []) 65 out)) (Unit {0}) (store_reader_rules v f (length out))
    × (numbers (store_reader_rules v f (length out)) ≡ 1 ∷ 4 ∷ 7 ∷ 9 ∷ [])

-- The last of 65 bytes: 0 for the reader of no bytes, else a combo's number.
abbrev pub KnownLast : ℕ → Type 0
KnownLast n = (n ≡ 0 → ⊥) → KnownCombo n

-- Reading: bytes that are not 65 get row 1; 65 whose last is above 2 get row 17; 65 whose last is 0 get row 4, whatever file and range; a content key and a MAC key
-- of 32 bytes and a 1 get what a read through a reader with these keys and SIV_GCM comes to that holds f, with a 2 through one with SIV_CTRMAC. No bytes are left out.
abbrev pub ReaderLentExactly : Type 0
ReaderLentExactly =
    (f b : List ℕ) (from count : ℕ) (out : List ℕ) →
    let e = read_lent f b from count out in
    ((length b ≡ 65 → ⊥) → e ≡ ended (refused 1) out)
    × (length b ≡ 65 → (KnownLast (get_or b 64 0) → ⊥) → e ≡ ended (refused 17) out)
    × (length b ≡ 65 → get_or b 64 0 ≡ 0 → e ≡ ended (refused 4) out)
    × ((content mac : List ℕ) → KeySizes content mac
    → (content ++ mac ++ 1 ∷ [] ≡ b → e ≡ read_kept (keys_with content mac SivGcm) f from count out)
    × (content ++ mac ++ 2 ∷ [] ≡ b → e ≡ read_kept (keys_with content mac SivCtrmac) f from count out))
    × (length b ≡ 65 → (content : List ℕ) × (mac : List ℕ) × KeySizes content mac × (content ++ mac ++ get_or b 64 0 ∷ [] ≡ b))

-- Rows 4, 7 and 9 of the making, each with all that has to hold before it; with room it answers as `open_kept`.
abbrev pub StoreRowsFourToNine : Type 0
StoreRowsFourToNine =
    (v : Vault) (f out : List ℕ) →
    let C = codec_of v in
    let e = store_reader v f out in
    let Sized = KeySizes v.enc v.mac × FileLength C.sizes (length f) in
    ((e ≡ ended (refused 4) (no_bytes_in out)) ↔ (KeySizes v.enc v.mac × (FileLength C.sizes (length f) → ⊥)))
    × ((e ≡ ended (refused 7) out) ↔ (Sized × (length out < 65)))
    × ((e ≡ ended (refused 9) (no_bytes_in out)) ↔ (Sized × (65 ≤ length out) × (C.header_good (take C.sizes.header f) ≡ true → ⊥)))
    × (65 ≤ length out → e.outcome ≡ (open_kept v f).outcome)

-- The making, lent bytes as a vault: where they are not 66, row 1, and where they are and their last but one is neither 1 nor 2, row 17, and both leave the buffer; else it ends
-- under the record of these bytes.
abbrev pub StoreLentRows : Type 0
StoreLentRows =
    (vault f keys : List ℕ)
    → ((length vault ≡ 66 → ⊥) → store_lent vault f keys ≡ ended (refused 1) keys)
    × (length vault ≡ 66 → (KnownCombo (get_or vault 64 0) → ⊥) → store_lent vault f keys ≡ ended (refused 17) keys)
    × (length vault ≡ 66 → KnownCombo (get_or vault 64 0) → store_lent vault f keys ≡ store_reader (vault_in vault) f keys)

-- What the making left in a buffer with room, where the vault lent has 66 bytes and a known combo: where it succeeded, a read that is lent the same file, or any bytes that begin with the
-- same header, ends as the range read of these under that vault, answer and buffer; where the file was refused, every read, whatever file it is lent, ends by row 4.
abbrev pub MadeReads : Type 0
MadeReads =
    (vault f keys : List ℕ) → length vault ≡ 66 → KnownCombo (get_or vault 64 0) → 65 ≤ length keys → (g : List ℕ) (from count : ℕ) (out : List ℕ) →
    let v = vault_in vault in
    let m = store_lent vault f keys in
    let header = (codec_of v).sizes.header in
    let e = read_lent g (take 65 m.buffer) from count out in
    (Succeeded m → take header g ≡ take header f → e ≡ lent_end vault (λ u. read_range (codec_of u) g from count out) out)
    × ((Succeeded m → ⊥) → e ≡ ended (refused 4) out)
