-- `word_bytes`: all places are written.
-- Assumes nothing.
use Rattle.std.proofs.Common.{◌∙◌, arith}
use Rattle.octets.specs.Words.{word_bytes}
use Rattle.octets.proofs.Lists.{placed_all}
use Rattle.octets.proofs.Words.{length-word_bytes}
use Rattle.hashing.proofs.words.word_bytes.Goals as goal

pub returns : goal.returns
returns g c =
    let w = c.args.w.now in
    c.write_words.ensures ∙ placed_all (word_bytes w) _ (omega (arith, length-word_bytes w))
