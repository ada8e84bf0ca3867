-- `seal_under`: sealing under the two expanded keys.
-- Assumes nothing.
use Prim.Native.Nat.{ℕ}
use mathlib.Core.Path.{◌∙◌, ap₂}
use mathlib.Core.List.{List}
use borrow.Author.Rules.{rules}
use Rattle.aes.proofs.Ciphers.{under_key}
use Rattle.siv.specs.Siv as spec
use Rattle.std.proofs.Common.{option_copied}
use Rattle.siv.specs.Pieces.{pieces}
use Rattle.primitives.proofs.deterministic.seal_under.Goals as goal

pub seal-requires : goal.seal-requires
seal-requires c = let p = c.requires in record { in_bounds = (search rules, search rules); out_len = p.3 }

pub returns : goal.returns
returns c =
    let x = c.args in
    c.seal.ensures
    ∙ ap₂ (λ (m e : List ℕ → List ℕ). spec.seal m e (pieces (option_copied x.ad)) x.cleartext.now)
    (under_key _ _ c.expand.ensures) (under_key _ _ c.expand-2.ensures)
