-- `finish`: the padding goes in, and all blocks are whole then.
-- Assumes nothing.
use Rattle.std.proofs.Common.{◌∙◌}
use Rattle.hashing.specs.States.{state_of}
use Rattle.hashing.proofs.Messages.{padded_last}
use Rattle.hashing.proofs.running.Hash.finish.Goals as goal

pub returns : goal.returns
returns g c =
    let v = g.V.HashValue in
    c.to_digest.ensures ∙ padded_last v.compress (state_of v.words_of c.args.self) _ _ c.padding_of-padding.ensures.bytes_value c.update-last.ensures.hashed
