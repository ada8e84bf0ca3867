-- `step`: one block enciphered.
-- Assumes nothing.
use borrow.Author.Rules.{rules}
use Rattle.aes_spec.specs.Cipher.{cipher}
use Rattle.key_wrap.proofs.Parts.{stepped}
use Rattle.key_wrap.proofs.steps.step.Goals as goal

pub returns : goal.returns
returns c =
    let a = c.args in
    let y = c.encrypt-y in
    stepped a.x.now c.told-x (cipher 14 a.w.now) a.n y.result.a y.result.b y.result.c y.result.d (search rules) y.ensures
