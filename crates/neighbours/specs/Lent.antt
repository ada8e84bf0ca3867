-- Neighbouring reads, and reads beside a mended range, for C callers, who lend a vault and a reader as bytes. The terms are those of the exported calls' contracts; `range_lent` and
-- `mend_lent` stand for what is written out there.
-- Assumes nothing.
use Rattle.std.specs.Prelude.{◌≡◌, List, ℕ, ◌≤◌, length, take, get_or}
use Rattle.octets.specs.Bytes.{Bytes}
use Rattle.octets.specs.Rows.{End, Succeeded}
use Rattle.frame.specs.Layout.{Inside}
use Rattle.frame.specs.Frame.{read_range}
use Rattle.mend_spec.specs.Mend.{mend_file}
use Rattle.vault.specs.Vault.{sizes_of, codec_of}
use Rattle.vault_bytes.specs.VaultBytes.{vault_in, lent_end}
use Rattle.vault_bytes.specs.Statements.{KnownCombo}
use Rattle.reader_bytes.specs.ReaderBytes.{keys_in, store_lent, read_lent}
use Rattle.neighbours.specs.Neighbours.{Read, NeighboursAddUp, Stay}

-- What a range read of f ends in, lent the bytes b as a vault.
abbrev pub range_lent : List ℕ → List ℕ → Read
range_lent b f from count out = lent_end b (λ v. read_range (codec_of v) f from count out) out

-- What a mend of f ends in, lent the bytes b as a vault.
abbrev pub mend_lent : List ℕ → List ℕ → ℕ → List ℕ → List ℕ → End
mend_lent b f from new nonces = lent_end b (λ v. mend_file (codec_of v) f from new nonces) f

-- Whatever bytes are lent as a vault, or as a reader: "inside" goes by the combo that these name, and where they name none, every read is refused by one row. And through the reader
-- that was made for f under a vault, or the zeros that a refusal left, where "inside" is said of f and the vault's combo.
abbrev pub LentAddUp : Type 0
LentAddUp =
    ((b f : List ℕ) → NeighboursAddUp (range_lent b f) (Inside (sizes_of (vault_in b).combo) (length f)))
    × ((b f : List ℕ) → NeighboursAddUp (read_lent f b) (Inside (sizes_of (keys_in b).combo) (length f)))
    × ((b f keys : List ℕ) → length b ≡ 66 → KnownCombo (get_or b 64 0) → 65 ≤ length keys
    → NeighboursAddUp (read_lent f (take 65 (store_lent b f keys).buffer)) (Inside (sizes_of (vault_in b).combo) (length f)))

-- After a mend that succeeded, what shares no byte with it is read as before: by range reads; and through a reader that is made anew, in any buffer with room for its 65 bytes. From
-- an equal buffer the making ends as before, answer and bytes, so the bytes that were made before serve as well.
abbrev pub LentStay : Type 0
LentStay =
    (b f : List ℕ) (from : ℕ) (new nonces : List ℕ) → Bytes b → Bytes f → Bytes new → Bytes nonces → Succeeded (mend_lent b f from new nonces) →
    let g = (mend_lent b f from new nonces).buffer in
    Stay (range_lent b f) (range_lent b g) from (length new)
    × ((keys : List ℕ) → store_lent b g keys ≡ store_lent b f keys)
    × ((keys again : List ℕ) → 65 ≤ length keys → 65 ≤ length again
    → Stay (read_lent f (take 65 (store_lent b f keys).buffer)) (read_lent g (take 65 (store_lent b g again).buffer)) from (length new))
