-- `whole`: word by word, each to its place. A word that is read later still stands as it was.
-- Assumes nothing.
use Rattle.std.proofs.Common.{ap, ◌∙◌}
use Rattle.octets.specs.Words.{word_bytes}
use Rattle.octets.specs.Xors.{xors}
use Rattle.ctr.proofs.WholeBlocks.{xor_block_in_place}
use Rattle.ctr.proofs.in_place.whole.Goals as goal

pub returns : goal.returns
unfolding word_bytes
returns c =
    let s = c.args.text.now in
    let k = c.encrypt-k.result in
    xor_block_in_place s c.requires.in_bounds.1 k.a k.b k.c k.d _ _ _ _ c.put_word.auto.out c.put_word-2.auto.out
    c.word_at-a.ensures.has_bytes c.word_at.ensures.has_bytes c.word_at-2.ensures.has_bytes c.word_at-3.ensures.has_bytes
    c.put_word.ensures c.put_word-2.ensures c.put_word-3.ensures c.put_word-4.ensures
    ∙ ap (xors s) c.encrypt-k.ensures
