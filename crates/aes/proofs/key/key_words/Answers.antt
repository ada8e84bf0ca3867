-- `key_words`: after i turns the first i words are the key's.
-- Assumes nothing.
use Prim.Native.Nat.{ℕ}
use mathlib.Core.Path.{refl, ◌∙◌, ap}
use mathlib.Core.List.{List}
use native.Mathlib.Omega.{arith}
use lib.ListN.{set}
use Rattle.octets.specs.Words.{words}
use Rattle.aes.proofs.Schedule.{words_more}
use Rattle.aes.proofs.key.key_words.Goals as goal

pub loop-i-init : goal.loop-i-init
unfolding words
loop-i-init c = refl

pub loop-i-preserved : goal.loop-i-preserved
loop-i-preserved c =
    let l = c.loop-i in
    let x = c.args in
    let v = c.word_at.result in
    ap (λ (s : List ℕ). set s l.i v) l.invariant ∙ words_more x.key.now x.w.now l.i v (omega arith) c.word_at.ensures.value
