-- `cmac`: from the block of zeros on.
-- Assumes nothing.
use Prim.Native.Nat.{ℕ}
use mathlib.Core.Path.{◌∙◌, ap}
use mathlib.Core.List.{List}
use Rattle.aes_spec.specs.Cipher.{cipher}
use Rattle.siv.specs.Cmac as spec
use Rattle.siv.proofs.cmac.cmac.Goals as goal

pub returns : goal.returns
unfolding spec.cmac
returns c =
    let x = c.args in
    c.cmac_from.ensures ∙ ap (λ (z : List ℕ). spec.cmac_from (cipher 14 x.w.now) z x.s.now) c.zeros.ensures
