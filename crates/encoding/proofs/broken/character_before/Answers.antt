-- `character_before`: the character at the place before.
-- Assumes nothing.
use mathlib.Core.Path.{◌≡◌, ap}
use mathlib.Core.List.{◌∷◌}
use Prim.Native.Nat.{ℕ, suc, ◌-◌}
use native.Mathlib.Omega.{arith}
use lib.ListN.{get_or}
use Rattle.encoding.proofs.broken.character_before.Goals as goal

pub returns : goal.returns
returns c =
    let x = c.args in
    let e : suc (x.i - 1) ≡ x.i = omega (arith, c.if-i-eq0.false) in
    ap (λ (k : ℕ). get_or (0 ∷ x.text.now) k 0) e
