-- The demands on headers, chunks, files and ranges, for every record: they go by its combo.
-- Assumes nothing.
use Rattle.frame.specs.Rules.{KeySizes}
use Rattle.frame.specs.Statements.{RowsExactly, RowsAscend, RowTen, OpeningIsReading, FilePieces, FileBytes, WritesExactly, WrittenOpens, RangeIsLocal, ReadsExactly}
use Rattle.frame.specs.SingleStatements.{LengthsExactly, LengthsAscend, LengthsInverse, SingleRowsExactly, SingleAscend, SingleBytes, HeaderWritesExactly, HeaderWrittenOpens, AnyReserved, WritesFF, ChunksIgnoreReserved, HeaderOpensExactly, ChunkWritesExactly, ChunkWrittenOpens, ChunkOpensExactly}
use Rattle.vault.specs.declared.record.Vault.{Vault}
use Rattle.vault.specs.Vault.{sizes_of, codec_of, Keys}

-- Demand 1, of the calls on lengths, headers, chunks and files: each gives a row exactly where it applies and no lower one does, and then
-- leaves the buffer; row 10 returns the lowest number; and the two calls on lengths are each other's inverse. Any keys.
abbrev pub DemandOne : Type 0
DemandOne =
    (v : Vault) →
    let C = codec_of v in
    let Sized = KeySizes v.enc v.mac in
    let z = sizes_of v.combo in
    RowsExactly C Sized × RowsAscend C Sized × RowTen C Sized × OpeningIsReading C
    × SingleRowsExactly C Sized × SingleAscend C Sized × LengthsExactly z × LengthsAscend z × LengthsInverse z

-- Demand 2, of headers, chunks and files: they are written exactly where they fit, reading gives back what was written, and nothing else is
-- read. For files the last is in demand 3. A header may have any eight reserved bytes, our writers write FF, and chunks do not depend on them.
abbrev pub DemandTwo : Type 0
DemandTwo =
    (v : Vault) →
    let C = codec_of v in
    let Sized = KeySizes v.enc v.mac in
    HeaderWritesExactly C Sized × ChunkWritesExactly C × WritesExactly C Sized
    × ChunkWrittenOpens C × ChunkOpensExactly C × ChunksIgnoreReserved C
    × (Keys v → HeaderWrittenOpens C × AnyReserved C × WritesFF C × HeaderOpensExactly C × WrittenOpens C × FilePieces C × FileBytes C × SingleBytes C)

-- Demand 3, under one record, its combo included: one choice or none; files open, and ranges are read, exactly. Range reads are local, under any keys.
abbrev pub DemandThree : Type 0
DemandThree = (v : Vault) → RangeIsLocal (codec_of v) × (Keys v → ReadsExactly (codec_of v))
