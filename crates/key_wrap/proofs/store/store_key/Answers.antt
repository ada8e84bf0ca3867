-- `store_key`: the words behind the check value.
-- Assumes nothing.
use Rattle.std.proofs.Common.{◌∙◌}
use Rattle.key_wrap.proofs.Parts.{key_stored}
use Rattle.key_wrap.proofs.store.store_key.Goals as goal

pub returns : goal.returns
returns c = c.store.ensures ∙ key_stored c.args.x.now c.told-x
