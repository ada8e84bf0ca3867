-- The demands on the mend, for every record: they go by its combo.
-- Assumes nothing.
use Rattle.frame.specs.Rules.{KeySizes}
use Rattle.mend_spec.specs.Statements.{DueBytes, DueCovers, PatchedBytes, PatchedParts, MendRowsExactly, MendRowsAscend, MendRowTen, MendRowOne, MendRowsFourToNine, EmptyMend, MendsExactly}
use Rattle.vault.specs.declared.record.Vault.{Vault}
use Rattle.vault.specs.Vault.{codec_of, Keys}

-- Each row is given exactly where it applies and no lower one does, and then leaves the file; row 10 returns the lowest number, and row 1 goes by range and nonces alone; an
-- empty range changes nothing. Any keys. A mend that succeeds leaves what the writing rules give for the lent nonces and the old cleartext with the range replaced.
abbrev pub MendDemand : Type 0
MendDemand =
    DueBytes × DueCovers × PatchedBytes × PatchedParts
    × ((v : Vault) →
    let C = codec_of v in
    let Sized = KeySizes v.enc v.mac in
    MendRowsExactly C Sized × MendRowsAscend C Sized × MendRowTen C Sized × MendRowOne C Sized × MendRowsFourToNine C Sized × EmptyMend C Sized × (Keys v → MendsExactly C))
