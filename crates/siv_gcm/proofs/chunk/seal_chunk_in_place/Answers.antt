-- `seal_chunk_in_place`: sealing with the associated data of the chunk.
-- Assumes nothing.
use Prim.Native.Nat.{ℕ, ◌-◌}
use mathlib.Core.Path.{◌∙◌, ap}
use mathlib.Core.List.{List}
use lib.ListN.{length, take, drop}
use Rattle.aes_spec.specs.Cipher.{cipher}
use Rattle.siv_gcm.specs.SivGcm.{sealed}
use Rattle.siv_gcm.proofs.chunk.seal_chunk_in_place.Goals as goal

pub returns : goal.returns
returns c =
    let x = c.args in
    let s = x.chunk.now in
    c.seal_in_place.ensures ∙ ap (λ (a : List ℕ). sealed (cipher 14 x.k.now.w.now) a x.nonce.now (take (length s - 28) (drop 12 s))) c.chunk_data-data.ensures
