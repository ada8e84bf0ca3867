-- For every record: neighbouring reads add up, and reads beside a mended range stay, by range reads and through a kept reader. Neighbouring reads add up through a hand-made
-- reader too.
-- Assumes nothing.
use Rattle.std.specs.Prelude.{◌≡◌, List, ℕ, length}
use Rattle.frame.specs.Layout.{Inside}
use Rattle.mend_spec.specs.Statements.{Mending, after}
use Rattle.vault.specs.declared.record.Vault.{Vault}
use Rattle.vault.specs.Vault.{sizes_of, codec_of, Keys}
use Rattle.file_reader.specs.declared.keys.ReaderKeys.{ReaderKeys}
use Rattle.file_reader.specs.Kept.{open_kept, read_kept}
use Rattle.neighbours.specs.Neighbours.{NeighboursAddUp, Stay}
use Rattle.neighbours.specs.Statements.{RangesAddUp, RangesStay}

-- Range reads under any record; reads through any reader; and through the one that was made for f, or that a refusal gave, where "inside" is said of f.
abbrev pub ReadsAddUp : Type 0
ReadsAddUp =
    ((v : Vault) → RangesAddUp (codec_of v))
    × ((k : ReaderKeys) (f : List ℕ) → NeighboursAddUp (read_kept k f) (Inside (sizes_of k.combo) (length f)))
    × ((v : Vault) (f : List ℕ) → let m = open_kept v f in NeighboursAddUp (read_kept m.keys m.file) (Inside (sizes_of v.combo) (length f)))

-- After a mend under v that succeeded, what shares no byte with it is read as before, through a reader that is made anew under v. Such a reader is made with the same answer, and
-- holds the same keys and all of the mended file; so the keys of a reader that was made before serve as well.
abbrev pub KeptStay : Vault → Type 0
KeptStay v =
    (f : List ℕ) (from : ℕ) (new nonces : List ℕ) → Mending (codec_of v) f from new nonces →
    let g = after (codec_of v) f from new nonces in
    let m = open_kept v f in
    let n = open_kept v g in
    Stay (read_kept m.keys m.file) (read_kept n.keys n.file) from (length new)
    × (n.outcome ≡ m.outcome) × (n.keys ≡ m.keys) × (n.file ≡ g)

-- The two halves.
abbrev pub NeighboursDemand : Type 0
NeighboursDemand = ReadsAddUp × ((v : Vault) → Keys v → RangesStay (codec_of v) × KeptStay v)
