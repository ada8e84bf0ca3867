-- `crypt_in_place`: after each turn the first j bytes are those of the text that it becomes.
-- Assumes nothing.
use Rattle.std.proofs.Common.{refl, ap, ◌∙◌, arith, rules}
use Rattle.octets.proofs.Lists.{filled_all}
use Rattle.aes_spec.specs.Cipher.{cipher}
use Rattle.aes.specs.Blocks.{state}
use Rattle.aes.proofs.Ciphers.{length-cipher}
use Rattle.ctr.specs.Ctr as spec
use Rattle.ctr.proofs.Texts.{length-ctr, text_more_in_place}
use Rattle.ctr.proofs.in_place.crypt_in_place.Goals as goal

pub loop-j-init : goal.loop-j-init
loop-j-init g c = (search rules, refl, refl)

pub loop-j-preserved : goal.loop-j-preserved
loop-j-preserved g c =
    let n = c.in_block in
    let l = c.loop-j in
    let x = c.args in
    let e = cipher 14 x.w.now in
    let f = text_more_in_place g.C.Counter.inc e (length-cipher 14 x.w.now) (state x.first) x.text.now l.text l.j n.result
    (omega (arith, n.ensures)) n.ensures.2 l.invariant.2 (ap e c.after-c.ensures) c.apply.ensures in
    (omega arith, f.0, f.1)

pub returns : goal.returns
returns g c =
    let l = c.loop-j in
    let x = c.args in
    let s = x.text.now in
    let t = spec.ctr g.C.Counter.inc (cipher 14 x.w.now) (state x.first) s in
    let n = length-ctr g.C.Counter.inc (cipher 14 x.w.now) (length-cipher 14 x.w.now) (state x.first) s in
    l.invariant.2 ∙ filled_all t s l.j (omega arith) (omega arith)
