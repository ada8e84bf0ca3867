-- `temp_word`: the three cases of the definition.
-- Assumes nothing.
use Prim.Native.Nat.{ℕ}
use mathlib.Core.Path.{◌∙◌, sym, ap, ap₂}
use native.Mathlib.Omega.{arith}
use lib.Bits.{bit_xor}
use Rattle.octets.specs.Words.{word}
use Rattle.aes_spec.specs.KeyExpansion.{sub_word, rcon}
use Rattle.aes.proofs.Schedule.{temp-first, temp_middle, temp-other}
use Rattle.aes.proofs.key.temp_word.Goals as goal

pub returns-in-0 : goal.returns-in-0
unfolding rcon
returns-in-0 c =
    let x = c.args in
    ap₂ bit_xor (c.sub_word.ensures ∙ ap sub_word c.rot_word.ensures)
    (c.join.ensures.value ∙ ap (λ (p : ℕ). word p 0 0 0) c.power_of_x.ensures)
    ∙ sym (temp-first 8 x.i x.v c.in-0.is)

pub returns-in-4 : goal.returns-in-4
returns-in-4 c = c.sub_word-in-4.ensures ∙ sym (temp_middle _ _ c.in-4.is)

pub returns-in_default : goal.returns-in_default
returns-in_default c = sym (temp-other _ _ (λ e. omega arith) (λ e. omega arith))
