-- `is_hash`: the hash name is made and compared.
-- Assumes nothing.
use mathlib.Core.Path.{sym, ap, ◌∙◌}
use lib.ListN.{replicate}
use Rattle.octets.specs.Bytes.{same}
use Rattle.octets.proofs.Lists.{placed_all}
use Rattle.name_spec.specs.Names.{hash_name}
use Rattle.name_spec.proofs.Texts.{length_hash}
use Rattle.name_texts.proofs.texts.is_hash.Goals as goal

pub returns : goal.returns
returns c =
    let x = c.args in
    c.equal.ensures
    ∙ ap (same x.stored.now) (c.write_hash.ensures ∙ placed_all (hash_name x.full.now) (replicate 32 0) (sym (length_hash x.full.now)))
