-- `common`: the place of the first characters that differ.
-- Assumes nothing.
use borrow.Author.Rules.{rules}
use Rattle.name_texts.proofs.Stems.{common_is}
use Rattle.name_texts.proofs.form.common.Goals as goal

pub returns : goal.returns
returns c = common_is c.args.text.now c.args.end.now c.unwrap_or.result (search rules) (search rules) (search rules) (search rules)
