-- `file_length`: row 4, or the length.
-- Assumes nothing.
use Prim.Native.Nat.{ℕ}
use mathlib.Core.Path.{sym, ap, ◌∙◌}
use mathlib.Core.List.{[], ◌∷◌}
use native.Mathlib.Omega.{arith}
use Rattle.octets.specs.Rows.{done}
use Rattle.frame.proofs.Exactly.{lengths_exactly}
use Rattle.vault.specs.Vault.{sizes_of}
use Rattle.content.proofs.lengths.file_length.Goals as goal

pub returns-then-n-gt16777216 : goal.returns-then-n-gt16777216
returns-then-n-gt16777216 c = let x = c.args in sym (((lengths_exactly (sizes_of x.v.combo)).0 x.n).0.1 (tt, λ h. omega arith))

pub returns : goal.returns
returns c =
    let x = c.args in
    ap (λ (m : ℕ). done (m ∷ [])) c.file_length.ensures ∙ sym (((lengths_exactly (sizes_of x.v.combo)).0 x.n).1.1 (tt, omega arith))
