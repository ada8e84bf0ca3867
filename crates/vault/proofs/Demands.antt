-- The demands on headers, chunks, files and ranges, for every record.
-- Assumes nothing.
use Rattle.frame.specs.Laws.{Laws}
use Rattle.frame.specs.Rules.{KeySizes}
use Rattle.frame.proofs.Single.{single_bytes, lengths_inverse, header-written-opens, any_reserved, writes_ff, header-opens_exactly, chunk_written_opens, chunk_opens_exactly}
use Rattle.frame.proofs.Exactly.{rows_exactly, rows_ascend, single_rows_exactly, single_ascend, lengths_exactly, lengths_ascend, header_writes_exactly, chunk_writes_exactly, writes_exactly}
use Rattle.frame.proofs.Success.{opening_is_reading}
use Rattle.frame.proofs.RowTen.{row_ten}
use Rattle.frame.proofs.Local.{range_is_local}
use Rattle.frame.proofs.Files.{reads_exactly}
use Rattle.frame.proofs.Writer.{written-opens, file-pieces, file-bytes}
use Rattle.vault.specs.declared.record.Vault.{Vault}
use Rattle.vault.specs.Vault.{sizes_of, codec_of, Keys}
use Rattle.vault.specs.Demands.{DemandOne, DemandTwo, DemandThree}
use Rattle.vault.proofs.Combos.{sized_exactly, chunk_laws, laws, ignores_reserved}

under : (v : Vault) → Keys v → Laws (codec_of v)
under v k = laws v.combo v.enc v.mac k.enc-size k.mac-size k.enc-bytes

pub demand_one : DemandOne
demand_one v =
    let C = codec_of v in
    let Sized = KeySizes v.enc v.mac in
    let sized = sized_exactly v.combo v.enc v.mac in
    let z = sizes_of v.combo in (
      rows_exactly C Sized sized,
      rows_ascend C Sized sized,
      row_ten C Sized sized,
      opening_is_reading C,
      single_rows_exactly C Sized sized,
      single_ascend C Sized sized,
      lengths_exactly z,
      lengths_ascend z,
      lengths_inverse z,
    )

pub demand_two : DemandTwo
demand_two v =
    let C = codec_of v in
    let Sized = KeySizes v.enc v.mac in
    let sized = sized_exactly v.combo v.enc v.mac in
    let c = chunk_laws v.combo v.enc v.mac in (
      header_writes_exactly C Sized sized,
      chunk_writes_exactly C,
      writes_exactly C Sized sized,
      chunk_written_opens C c,
      chunk_opens_exactly C c,
      ignores_reserved v.combo v.enc v.mac,
      λ k. let all = under v k in (header-written-opens C all, any_reserved C all, writes_ff C all, header-opens_exactly C all, written-opens C all, file-pieces C all, file-bytes C all, single_bytes C all),
    )

pub demand_three : DemandThree
demand_three v = (range_is_local (codec_of v) (chunk_laws v.combo v.enc v.mac).plain_size, λ k. reads_exactly (codec_of v) (under v k))
