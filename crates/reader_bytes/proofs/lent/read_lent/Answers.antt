-- `read_lent`: the two tests of the bytes, and then the read through the keys.
-- Assumes nothing.
use Prim.Native.Nat.{ℕ}
use mathlib.Core.Path.{sym, ap₂, ◌∙◌}
use mathlib.Core.List.{List}
use Rattle.file_reader.specs.declared.keys.ReaderKeys.{ReaderKeys}
use Rattle.file_reader.specs.Kept.{read_kept}
use Rattle.reader_bytes.specs.ReaderBytes.{file_in}
use Rattle.reader_bytes.proofs.Lending.{no_size, no_combo, lent}
use Rattle.reader_bytes.proofs.lent.read_lent.Goals as goal

pub returns-then-bytes-ne-READER_SIZE : goal.returns-then-bytes-ne-READER_SIZE
returns-then-bytes-ne-READER_SIZE c = let x = c.args in sym (no_size x.file.now x.bytes.now x.from x.count x.out.now c.if-bytes-ne-READER_SIZE.true)

pub returns-then-last-gt2 : goal.returns-then-last-gt2
returns-then-last-gt2 c =
    let x = c.args in
    sym (no_combo x.file.now x.bytes.now x.from x.count x.out.now c.if-bytes-ne-READER_SIZE.false c.if-last-gt2.true)

pub returns : goal.returns
unfolding file_in
returns c =
    let x = c.args in
    let k = c.keys_in.ensures in
    let f = c.file_by.ensures in
    c.read_kept.ensures
    ∙ ap₂ (λ (y : ReaderKeys) (g : List ℕ). read_kept y g x.from x.count x.out.now) k f
    ∙ sym (lent x.file.now x.bytes.now x.from x.count x.out.now c.if-bytes-ne-READER_SIZE.false c.if-last-gt2.false)
