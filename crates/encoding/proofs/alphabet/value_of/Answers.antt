-- `value_of`: the entry of the table.
-- Assumes nothing.
use borrow.Author.Rules.{rules}
use Rattle.encoding.proofs.Characters.{table_at}
use Rattle.encoding.proofs.alphabet.value_of.Goals as goal

pub returns : goal.returns
returns c = rw c.args.t.now.standard (table_at c.args.c (search rules))
