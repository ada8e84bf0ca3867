-- `text_form`: by the length of the name, and by the text's own.
-- Assumes nothing.
use Rattle.name_texts.proofs.Measured.{broken_form, long_form, right_form}
use Rattle.name_texts.proofs.form.text_form.Goals as goal
use Rattle.name_texts.proofs.form.text_form.Goals.{in_default-via-in-Some+else-text-most, in_default-via-in_default}

pub returns-in-Some : goal.returns-in-Some
returns-in-Some c = right_form c.args.text.now c.args.most c.in-Some.m c.in-Some.ensures c.if-text-most.true

pub returns-in_default : goal.returns-in_default
returns-in_default c =
    elim c.in_default.branch [
      | in_default-via-in-Some+else-text-most w ↦ long_form c.args.text.now c.args.most _ w.if-text-most.false c.broken_at.ensures
      | in_default-via-in_default w ↦ broken_form c.args.text.now c.args.most _ w.in_default.ensures c.broken_at.ensures
    ]
