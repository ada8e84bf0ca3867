-- `open_under`: opening under the two expanded keys.
-- Assumes nothing.
use Prim.Native.Nat.{ℕ}
use mathlib.Core.Path.{◌∙◌, ap, ap₂}
use mathlib.Core.List.{List}
use borrow.Author.Rules.{rules}
use Rattle.aes.proofs.Ciphers.{under_key}
use Rattle.siv.specs.Siv as spec
use Rattle.std.proofs.Common.{option_copied}
use Rattle.siv.specs.Pieces.{pieces}
use Rattle.primitives.proofs.deterministic.open_under.Goals as goal

pub open_into-requires : goal.open_into-requires
open_into-requires c = let p = c.requires in record { in_bounds = (search rules, search rules); sealed_len = p.3 }

pub returns : goal.returns
returns c =
    let x = c.args in
    let m = under_key _ _ c.expand.ensures in
    let e = under_key _ _ c.expand-2.ensures in record { value = c.open_into.ensures.value ∙ ap₂ (λ (f g : List ℕ → List ℕ). spec.good f g (pieces (option_copied x.ad)) x.sealed.now) m e; out_after = c.open_into.ensures.out_after ∙ ap (λ (g : List ℕ → List ℕ). spec.plain g x.sealed.now) e }
