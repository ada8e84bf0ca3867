-- `wrap_into`: under the schedule of the key-encryption key.
-- Assumes nothing.
use mathlib.Core.Path.{◌∙◌}
use Rattle.key_wrap.proofs.Parts.{wrapped_under}
use Rattle.key_wrap.proofs.wrap_into.Goals as goal

pub returns : goal.returns
returns c =
    let x = c.args in
    let w = c.expand in
    c.store.ensures ∙ c.wrapped.ensures ∙ wrapped_under x.kek.now w.new.w w.ensures x.key.now
