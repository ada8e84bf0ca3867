-- `step_back`: one block deciphered.
-- Assumes nothing.
use borrow.Author.Rules.{rules}
use Rattle.aes_inverse.specs.InverseCipher.{inv_cipher}
use Rattle.key_wrap.proofs.Parts.{stepped_back}
use Rattle.key_wrap.proofs.steps.step_back.Goals as goal

pub returns : goal.returns
returns c =
    let a = c.args in
    let y = c.decrypt-y in
    stepped_back a.x.now c.told-x (inv_cipher 14 a.w.now) a.n y.result.a y.result.b y.result.c y.result.d (search rules) y.ensures
