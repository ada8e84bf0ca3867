-- `entry`: the rule of the table, at the entry that is read, and the rule of the S-box at its byte.
-- Assumes nothing.
use Prim.Native.Nat.{ℕ}
use mathlib.Core.Path.{sym, subst}
use mathlib.Core.List.{List}
use borrow.Author.Rules.{rules}
use lib.ListN.{get_or}
use Rattle.octets.specs.Words.{HasBytes}
use Rattle.aes_spec.specs.Field.{mul}
use Rattle.aes_spec.specs.SBox.{sbox}
use Rattle.aes_spec.proofs.SBoxRule.{sbox_rule_lem}
use Rattle.aes_spec.proofs.RoundTableRule.{round_table_lem}
use Rattle.aes.proofs.round_table.RoundTable.entry.Goals as goal

pub returns : goal.returns
returns c =
    let x = c.args.x in (
      subst (λ (l : List ℕ). HasBytes (get_or l x 0) (mul 2 (sbox x)) (sbox x) (sbox x) (mul 3 (sbox x))) (sym c.args.self.now.standard) (round_table_lem x (search rules)),
      sbox_rule_lem x (search rules),
    )
