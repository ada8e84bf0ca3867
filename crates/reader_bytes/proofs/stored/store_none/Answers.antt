-- `store_none`: zeros at the front of a buffer that has room for them.
-- Assumes nothing.
use mathlib.Core.Path.{sym, ap, ◌∙◌}
use mathlib.Core.List.{List, ◌++◌}
use Prim.Native.Nat.{ℕ}
use lib.ListN.{drop}
use Rattle.reader_bytes.proofs.Storing.{no_room, with_room}
use Rattle.reader_bytes.proofs.stored.store_none.Goals as goal

pub returns-then-out-ge-READER_SIZE : goal.returns-then-out-ge-READER_SIZE
returns-then-out-ge-READER_SIZE c =
    let out = c.args.out.now in
    let h = c.if-out-ge-READER_SIZE.true in
    ap (λ (s : List ℕ). s ++ drop 65 out) c.copy_from_slice.ensures.after ∙ sym (with_room out h)

pub returns-else-out-ge-READER_SIZE : goal.returns-else-out-ge-READER_SIZE
returns-else-out-ge-READER_SIZE c = sym (no_room c.args.out.now c.if-out-ge-READER_SIZE.false)
