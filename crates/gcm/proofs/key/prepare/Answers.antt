-- `prepare`: the schedule, and the table of the subkey under it.
-- Assumes nothing.
use Prim.Native.Nat.{ℕ}
use mathlib.Core.Path.{◌∙◌, ap, subst}
use mathlib.Core.List.{List, ◌++◌}
use borrow.Author.Rules.{rules}
use native.Mathlib.Omega.{arith}
use Rattle.octets.proofs.Lists.{drop_all}
use Rattle.aes_spec.specs.KeyExpansion.{key_expansion}
use Rattle.aes.proofs.Ciphers.{under_key}
use Rattle.gcm.specs.Table.{Entries}
use Rattle.gcm.proofs.key.prepare.Goals as goal

pub returns : goal.returns
returns c =
    let key = c.args.key.now in
    let w = c.args.w.now in (
      (c.args.t.now.standard, search rules, subst (λ (h : ℕ). Entries h c.fill.new.m 16) c.subkey.ensures c.fill.ensures),
      under_key key _ (c.expand.ensures ∙ ap (λ (l : List ℕ). key_expansion 8 key ++ l) (drop_all 60 w (omega (arith, c.requires)))),
    )
