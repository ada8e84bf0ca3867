-- `update`: where bytes wait, the start of s completes their block, and the rest of s follows.
-- Assumes nothing.
use Rattle.std.proofs.Common.{sym}
use Rattle.hashing.specs.States.{state_of}
use Rattle.hashing.proofs.Messages.{updated_twice}
use Rattle.hashing.proofs.running.Hash.update.Goals as goal

pub returns-else-s-have : goal.returns-else-s-have
returns-else-s-have g c =
    let v = g.V.HashValue in
    rw (sym c.split_at.ensures.by_index.0) at (updated_twice v.compress (state_of v.words_of c.args.self) _ _ _ _ c.complete.ensures c.absorb-else-s-have.ensures)
