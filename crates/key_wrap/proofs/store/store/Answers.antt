-- `store`: before the word i the bytes of the words before it stand in their places.
-- Assumes nothing.
use Rattle.std.proofs.Common.{◌∙◌, arith}
use Rattle.key_wrap.proofs.Parts.{word_stored, words_stored}
use Rattle.key_wrap.proofs.store.store.Goals as goal

pub loop-i-preserved : goal.loop-i-preserved
loop-i-preserved c =
    let l = c.loop-i in
    word_stored c.args.words.now c.args.out.now l.out _ l.i (omega arith) l.invariant c.put_word.ensures

pub returns : goal.returns
returns c = c.loop-i.invariant ∙ words_stored c.args.words.now c.args.out.now c.loop-i.i c.requires (omega arith)
