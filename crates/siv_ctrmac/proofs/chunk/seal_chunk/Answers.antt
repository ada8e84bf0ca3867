-- `seal_chunk`: the MAC covers the header's nonce and the number.
-- Assumes nothing.
use Prim.Native.Nat.{ℕ}
use mathlib.Core.Path.{◌∙◌, ap}
use mathlib.Core.List.{List, ◌++◌}
use Rattle.aes_spec.specs.Cipher.{cipher}
use Rattle.hmac.specs.Hmac.{hmac_sha256}
use Rattle.siv_ctrmac.specs.SivCtrmac.{sealed, chunk_data}
use Rattle.siv_ctrmac.proofs.chunk.seal_chunk.Goals as goal

pub returns : goal.returns
unfolding chunk_data
returns c =
    let x = c.args in
    c.seal.ensures
    ∙ ap (λ (b : List ℕ). sealed (cipher 14 x.w.now) (hmac_sha256 x.mac.now) (x.header_nonce.now ++ b) x.nonce.now x.cleartext.now) c.split_eight.ensures
