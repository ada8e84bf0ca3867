-- `sub`: the entry that is read is the S-box's, and so the rule's.
-- Assumes nothing.
use Prim.Native.Nat.{ℕ}
use mathlib.Core.Path.{◌∙◌, ap}
use mathlib.Core.List.{List}
use borrow.Author.Rules.{rules}
use lib.ListN.{get_or}
use Rattle.aes_spec.specs.SBox.{sbox}
use Rattle.aes_spec.proofs.SBoxRule.{sbox_rule_lem}
use Rattle.aes.proofs.sbox.sub.Goals as goal

pub returns : goal.returns
unfolding sbox
returns c =
    let x = c.args.x in
    let e = ap (λ (l : List ℕ). get_or l x 0) c.requires in
    (e, e ∙ sbox_rule_lem x (search rules))
