-- `whole_stem`: by the number of bytes.
-- Assumes nothing.
use mathlib.Core.Path.{sym, ◌∙◌}
use borrow.Author.Tests.{lt-leb}
use Rattle.encoding.proofs.Answers.{refused-text}
use Rattle.encoding.proofs.Laws.{measured_is_accepted}
use Rattle.name_texts.proofs.Stems.{no_stem, short-stem, by_limit}
use Rattle.name_texts.proofs.form.whole_stem.Goals as goal

pub returns-then-m-ge-LEAST : goal.returns-then-m-ge-LEAST
returns-then-m-ge-LEAST c = by_limit c.args.limit c.args.text.now c.in-Ok.m (measured_is_accepted _ c.args.text.now c.in-Ok.m (sym c.in-Ok.ensures)) c.if-m-ge-LEAST.true

pub returns-else-m-ge-LEAST : goal.returns-else-m-ge-LEAST
returns-else-m-ge-LEAST c =
    lt-leb 17 c.in-Ok.m c.if-m-ge-LEAST.false
    ∙ short-stem c.args.limit c.args.text.now c.in-Ok.m (measured_is_accepted _ c.args.text.now c.in-Ok.m (sym c.in-Ok.ensures)) c.if-m-ge-LEAST.false

pub returns-in-Err : goal.returns-in-Err
returns-in-Err c = no_stem c.args.limit c.args.text.now (refused-text _ c.args.text.now _ (sym c.in-Err.ensures)).0
