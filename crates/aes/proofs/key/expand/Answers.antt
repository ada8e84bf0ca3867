-- `expand`: the first i words are the schedule's.
-- Assumes nothing.
use Prim.Native.Nat.{ℕ, ◌+◌, ◌-◌}
use mathlib.Core.Path.{◌≡◌, ◌∙◌, ap, sym}
use mathlib.Core.List.{List, ◌++◌}
use native.Mathlib.Omega.{arith}
use lib.ListN.{drop, get_or}
use lib.Bits.{bit_xor}
use Rattle.octets.specs.Words.{words}
use Rattle.octets.proofs.Lists.{drop_front}
use Rattle.aes_spec.specs.KeyExpansion.{expansion, key_expansion}
use Rattle.aes.proofs.Schedule.{length-words, expansion_more}
use Rattle.aes.proofs.key.expand.Goals as goal

-- The buffer once the key stands in it.
begun : (key d w : List ℕ) → w ≡ words 8 key ++ drop 8 d → w ≡ expansion 8 key 0 ++ drop (8 + 0) w
unfolding expansion
begun key d w e = e ∙ ap (λ (l : List ℕ). words 8 key ++ l) (sym (ap (drop 8) e ∙ drop_front (words 8 key) d 8 8 (length-words 8 key) (omega arith)))

ended : (key d w : List ℕ) → w ≡ words 8 key ++ drop 8 d → expansion 8 key 52 ++ drop 60 w ≡ key_expansion 8 key ++ drop 60 d
unfolding key_expansion
ended key d w e = ap (λ (l : List ℕ). expansion 8 key 52 ++ l) (ap (drop 60) e ∙ drop_front (words 8 key) d 8 60 (length-words 8 key) (omega arith))

pub loop-i-init : goal.loop-i-init
loop-i-init c =
    let x = c.args in
    begun x.key.now x.w.now _ c.key_words.ensures

pub loop-i-preserved : goal.loop-i-preserved
loop-i-preserved c =
    let l = c.loop-i in
    let x = c.args in
    let d = c.key_words.new.w in
    let v = bit_xor (get_or l.w (l.i - 8) 0) c.temp_word.result in
    expansion_more 8 x.key.now d l.w l.i v (omega arith) l.auto.i (omega arith) l.invariant (ap (bit_xor (get_or l.w (l.i - 8) 0)) c.temp_word.ensures)

pub returns : goal.returns
returns c =
    let l = c.loop-i in
    let x = c.args in
    let d = c.key_words.new.w in
    let e : l.i ≡ 60 = omega arith in
    l.invariant ∙ ap (λ (n : ℕ). expansion 8 x.key.now (n - 8) ++ drop n d) e ∙ ended x.key.now x.w.now d c.key_words.ensures
