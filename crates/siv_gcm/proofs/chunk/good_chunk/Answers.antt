-- `good_chunk`: the test of the tag with the associated data of the chunk.
-- Assumes nothing.
use Prim.Native.Nat.{ℕ}
use mathlib.Core.Path.{◌∙◌, ap}
use mathlib.Core.List.{List}
use Rattle.aes_spec.specs.Cipher.{cipher}
use Rattle.siv_gcm.specs.SivGcm.{opens}
use Rattle.siv_gcm.proofs.chunk.good_chunk.Goals as goal

pub returns : goal.returns
returns c =
    let x = c.args in
    c.good.ensures ∙ ap (λ (a : List ℕ). opens (cipher 14 x.k.now.w.now) a x.chunk.now) c.chunk_data-data.ensures
