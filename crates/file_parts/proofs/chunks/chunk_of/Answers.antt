-- `chunk_of`: the part of the file that is chunk i.
-- Assumes nothing.
use mathlib.Core.Path.{◌∙◌, ap}
use lib.ListN.{length}
use Rattle.frame.proofs.Pieces.{chunk_length}
use Rattle.frame.proofs.Filling.{chunk_part}
use Rattle.vault.specs.Vault.{sizes_of}
use Rattle.file_parts.proofs.chunks.chunk_of.Goals as goal

pub returns : goal.returns
returns c =
    let s = c.span_of-span in
    let a = c.args in
    let z = sizes_of a.combo in
    let p = chunk_part z a.file.now a.i s.result.start s.result.end s.ensures.0 s.ensures.1 in
    (p, ap length p ∙ chunk_length z a.file.now a.n a.i c.requires.0 c.requires.1)
