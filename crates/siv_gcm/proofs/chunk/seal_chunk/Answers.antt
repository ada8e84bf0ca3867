-- `seal_chunk`: sealing with the associated data of the chunk.
-- Assumes nothing.
use Prim.Native.Nat.{ℕ}
use mathlib.Core.Path.{◌∙◌, ap}
use mathlib.Core.List.{List}
use Rattle.aes_spec.specs.Cipher.{cipher}
use Rattle.siv_gcm.specs.SivGcm.{sealed}
use Rattle.siv_gcm.proofs.chunk.seal_chunk.Goals as goal

pub returns : goal.returns
returns c =
    let x = c.args in
    c.seal.ensures ∙ ap (λ (a : List ℕ). sealed (cipher 14 x.k.now.w.now) a x.nonce.now x.cleartext.now) c.chunk_data-data.ensures
