-- `open_reader`: the answer and the keys are those of the making, and the bytes that the reader holds go by the answer.
-- Assumes nothing.
use Rattle.std.proofs.Common.{◌∙◌, ap, sym}
use Rattle.octets.specs.Rows.{Outcome}
use Rattle.file_reader.specs.Kept.{kept_with, file_by}
use Rattle.file_reader.proofs.Files.{file_by_lem}
use Rattle.file_reader.proofs.open_reader.Goals as goal

pub returns : goal.returns
returns c =
    let s = c.args.file.now in
    let told = c.open_keys-opening.ensures in
    let held = c.held-part.ensures ∙ ap (λ (o : Outcome). file_by o s) told.0 ∙ sym (file_by_lem c.args.v s) in
    λ i. kept_with (told.0 i) (held i) (told.1 i)
