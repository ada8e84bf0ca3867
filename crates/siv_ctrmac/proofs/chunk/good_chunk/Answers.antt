-- `good_chunk`: the MAC over the header's nonce and the number.
-- Assumes nothing.
use Prim.Native.Nat.{ℕ}
use mathlib.Core.Path.{◌∙◌, ap}
use mathlib.Core.List.{List, ◌++◌}
use Rattle.hmac.specs.Hmac.{hmac_sha256}
use Rattle.siv_ctrmac.specs.SivCtrmac.{opens, chunk_data}
use Rattle.siv_ctrmac.proofs.chunk.good_chunk.Goals as goal

pub returns : goal.returns
unfolding chunk_data
returns c =
    let x = c.args in
    c.good.ensures ∙ ap (λ (b : List ℕ). opens (hmac_sha256 x.mac.now) (x.header_nonce.now ++ b) x.chunk.now) c.split_eight.ensures
