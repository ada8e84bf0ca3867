-- `crypt`: after each turn the first j bytes of out are those of the text.
-- Assumes nothing.
use Rattle.std.proofs.Common.{◌≡◌, ℕ, List, ◌++◌, length, take, drop, refl, ap, ◌∙◌, append-nil, arith, rules}
use lib.Seq.{drop-length}
use Rattle.octets.specs.Bytes.{filled}
use Rattle.aes_spec.specs.Cipher.{cipher}
use Rattle.aes.specs.Blocks.{state}
use Rattle.aes.proofs.Ciphers.{length-cipher}
use Rattle.ctr.specs.Ctr as spec
use Rattle.ctr.proofs.Texts.{text_more}
use Rattle.ctr.proofs.crypt.Goals as goal

pub loop-j-init : goal.loop-j-init
loop-j-init g c = (search rules, refl, refl)

pub loop-j-preserved : goal.loop-j-preserved
loop-j-preserved g c =
    let l = c.loop-j in
    let x = c.args in
    let n = c.in_block-n.result in
    let e = cipher 14 x.w.now in
    let f = text_more g.C.Counter.inc e (length-cipher 14 x.w.now) (state x.first) x.src.now x.out.now l.out x.lo l.j n
    c.requires.in_bounds.1 (omega (arith, c.in_block-n.ensures)) c.in_block-n.ensures.2 l.invariant.2
    (ap e c.after-c.ensures) c.apply.ensures in
    (omega arith, f.0, f.1)

pub returns : goal.returns
returns g c =
    let l = c.loop-j in
    let x = c.args in
    let t = drop x.lo (spec.ctr g.C.Counter.inc (cipher 14 x.w.now) (state x.first) x.src.now) in
    let e : l.j ≡ length x.out.now = omega arith in
    l.invariant.2 ∙ ap (λ (n : ℕ). filled t n x.out.now) e ∙ ap (λ (r : List ℕ). take (length x.out.now) t ++ r) (drop-length x.out.now) ∙ append-nil _
