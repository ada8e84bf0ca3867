-- A kept reader as C callers hold it: the file, which they lend again to each read, and 65 bytes that the making writes (`store_reader`, by `open_kept`; `read_lent`, by `read_kept`).
-- Assumes nothing.
use Rattle.std.specs.Prelude.{ℕ, not, cond, List, [], ◌∷◌, ◌++◌, eqb, leb, ltb, length, take, drop, get_or, replicate}
use Rattle.octets.specs.Bytes.{filled}
use Rattle.octets.specs.Rows.{Outcome, done, refused, refused_at, Row, answer, End, ended}
use Rattle.frame.specs.Layout.{clear_length, right_length, header_at}
use Rattle.frame.specs.Frame.{Codec, key_size}
use Rattle.vault.specs.declared.record.Combo.{Combo}
use Rattle.vault.specs.declared.record.Combo.TheVariants.{SivGcm, SivCtrmac}
use Rattle.vault.specs.declared.record.Vault.{Vault}
use Rattle.vault.specs.Vault.{codec_of}
use Rattle.vault_bytes.specs.VaultBytes.{combo_of, lent_end}
use Rattle.file_reader.specs.declared.keys.ReaderKeys.{ReaderKeys}
use Rattle.file_reader.specs.Kept.{keys_with, open_kept, read_kept}

-- A content key and a MAC key of 32 bytes, and a byte for the combo.
abbrev pub reader_size : ℕ
reader_size = 65

-- Where the combo's byte stands.
abbrev pub combo_place : ℕ
combo_place = 64

-- ---- making

-- 1 is SIV_GCM, 2 is SIV_CTRMAC.
abbrev pub combo_number : Combo → ℕ
combo_number SivGcm = 1
combo_number SivCtrmac = 2

-- The content key, the MAC key and the combo's number.
abbrev pub key_bytes : ReaderKeys → List ℕ
key_bytes k = k.content ++ k.mac ++ combo_number k.combo ∷ []

-- The reader of no bytes in a buffer: 65 zeros at its front, if it has room for them.
unfoldable pub no_bytes_in : List ℕ → List ℕ
no_bytes_in out = cond (ltb (length out) reader_size) out (filled (replicate reader_size 0) reader_size out)

-- A success leaves the keys k, and a refusal the reader of no bytes.
abbrev pub keys_after : Outcome → ReaderKeys → List ℕ → List ℕ
keys_after (done lengths) k out = filled (key_bytes k) reader_size out
keys_after (refused row) k out = no_bytes_in out
keys_after (refused_at row at) k out = no_bytes_in out

-- the rows, in order: a master key's size (1), the file's length (4), the buffer too short (7), the header not good (9)
unfoldable pub store_reader_rows : Codec → List ℕ → ℕ → List Row
store_reader_rows C f room =
    let z = C.sizes in
    (not C.keys_right, refused 1)
    ∷ (not (right_length z (length f)), refused 4)
    ∷ (ltb room reader_size, refused 7)
    ∷ (not (C.header_good (header_at z f)), refused 9)
    ∷ []

-- what making a reader for f under v ends in, with the buffer `out` for its bytes; a success returns the length of the cleartext
unfoldable pub store_reader : Vault → List ℕ → List ℕ → End
store_reader v f out =
    let C = codec_of v in
    let o = answer (store_reader_rows C f (length out)) (done (clear_length C.sizes (length f) ∷ [])) in
    ended o (keys_after o (open_kept v f).keys out)

-- the same, lent the bytes b as a vault, whose row leaves the buffer
abbrev pub store_lent : List ℕ → List ℕ → List ℕ → End
store_lent b f out = lent_end b (λ v. store_reader v f out) out

-- ---- reading

-- The keys that the bytes of a reader stand for. A last byte 0 reads as SIV_CTRMAC here, and `file_in` then leaves no file.
unfoldable pub keys_in : List ℕ → ReaderKeys
keys_in b = keys_with (take key_size b) (take key_size (drop key_size b)) (combo_of (get_or b combo_place 0))

-- What the reader holds of the lent file: nothing where its last byte is 0.
unfoldable pub file_in : List ℕ → List ℕ → List ℕ
file_in b f = cond (eqb (get_or b combo_place 0) 0) [] f

-- What reading count bytes from `from` on ends in, lent the file f and the bytes b of a reader, into the buffer `out`. Before every row of a read: another number of bytes than
-- 65 (1), a last byte that is neither 0 nor a combo's number (17).
unfoldable pub read_lent : List ℕ → List ℕ → ℕ → ℕ → List ℕ → End
read_lent f b from count out =
    cond (eqb (length b) reader_size) (cond (leb (get_or b combo_place 0) 2) (read_kept (keys_in b) (file_in b f) from count out) (ended (refused 17) out)) (ended (refused 1) out)
