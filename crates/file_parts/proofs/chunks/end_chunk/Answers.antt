-- `end_chunk`: the number after the last covering chunk is at most that of the chunks up to the range's end, so that it fits.
-- Assumes nothing.
use Prim.Native.Nat.{◌+◌, ◌/◌}
use mathlib.Core.Path.{refl}
use native.Mathlib.Omega.{arith}
use Rattle.frame.specs.Layout.{chunk_size, covering}
use Rattle.frame.proofs.Pieces.{covers_end}
use Rattle.file_parts.proofs.chunks.end_chunk.Goals as goal

pub overflow_add-result : goal.overflow_add-result
overflow_add-result c =
    let x = c.args in
    let e = covers_end (x.from + x.count) x.from x.count (x.from / chunk_size + covering x.from x.count) refl (omega arith) in
    omega (arith, e, c.covering.ensures, c.requires)
