-- `wait`: the whole blocks stay, and the rest grows by s.
-- Assumes nothing.
use Rattle.std.proofs.Common.{refl, rules}
use Rattle.hashing.specs.States.{state_of}
use Rattle.hashing.proofs.Messages.{waited}
use Rattle.hashing.proofs.running.Hash.wait.Goals as goal

pub returns : goal.returns
returns g c =
    let v = g.V.HashValue in
    waited v.compress (state_of v.words_of c.args.self.now) _ c.args.s.now (search rules) refl c.requires refl c.copy_at.ensures
