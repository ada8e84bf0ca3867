-- `entry`: the rule of the table, at the entry that is read, and that the S-box undoes the inverse S-box at its byte.
-- Assumes nothing.
use Prim.Native.Nat.{ℕ}
use mathlib.Core.Path.{sym, subst}
use mathlib.Core.List.{List}
use borrow.Author.Rules.{rules}
use lib.ListN.{get_or}
use Rattle.aes_inverse.specs.InverseSBox.{inverse_sbox}
use Rattle.aes_inverse.proofs.InverseSBoxRule.{sbox-undone}
use Rattle.aes_inverse.proofs.InverseRoundTableRule.{inverse_round_table_lem}
use Rattle.aes_inverse.proofs.Unmixing.{Multiples}
use Rattle.aes_inverse.proofs.round_table.InverseRoundTable.entry.Goals as goal

pub returns : goal.returns
returns c =
    let x = c.args.x in (
      subst (λ (l : List ℕ). Multiples (get_or l x 0) (inverse_sbox x)) (sym c.args.self.now.standard) (inverse_round_table_lem x (search rules)),
      (sbox-undone x (search rules)).1,
    )
