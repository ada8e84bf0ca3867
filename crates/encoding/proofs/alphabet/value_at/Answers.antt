-- `value_at`: the value, which is below 64 because the character is known.
-- Assumes nothing.
use Prim.Native.Nat.{ℕ, ◌<◌}
use mathlib.Core.Path.{sym, subst}
use Rattle.encoding.proofs.Characters.{known_at}
use Rattle.encoding.proofs.alphabet.value_at.Goals as goal

pub returns : goal.returns
returns c =
    let x = c.args in
    let h = c.requires.text_value in
    (c.value_of.ensures, subst (λ (v : ℕ). v < 64) (sym c.value_of.ensures) (known_at x.text.now h.0 x.i h.1))
