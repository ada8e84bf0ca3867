-- `whole`: word by word, each to its place.
-- Assumes nothing.
use Rattle.std.proofs.Common.{ap, ◌∙◌, arith}
use Rattle.octets.specs.Words.{word_bytes}
use Rattle.octets.specs.Xors.{xors}
use Rattle.ctr.proofs.WholeBlocks.{xor_block}
use Rattle.ctr.proofs.whole.Goals as goal

pub put_word-requires-3 : goal.put_word-requires-3
put_word-requires-3 c = omega (arith, c.requires.in_bounds, c.out-1.given, c.out-2-1.given)

pub word_at-requires-3 : goal.word_at-requires-3
word_at-requires-3 c = omega (arith, c.requires.in_bounds)

pub put_word-requires-4 : goal.put_word-requires-4
put_word-requires-4 c = omega (arith, c.requires.in_bounds, c.out-1.given, c.out-2-1.given, c.out-3-1.given)

pub returns : goal.returns
unfolding word_bytes
returns c =
    let k = c.encrypt-k.result in
    xor_block c.args.src.now c.args.out.now c.requires.in_bounds.1 c.requires.in_bounds.2 k.a k.b k.c k.d _ _ _ _
    c.word_at-a.ensures.has_bytes c.word_at.ensures.has_bytes c.word_at-2.ensures.has_bytes c.word_at-3.ensures.has_bytes
    c.put_word.ensures c.put_word-2.ensures c.put_word-3.ensures c.put_word-4.ensures
    ∙ ap (xors c.args.src.now) c.encrypt-k.ensures
