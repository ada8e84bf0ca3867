-- `seal_header`: the payload is sealed under the expanded key.
-- Assumes nothing.
use Prim.Native.Nat.{ℕ}
use mathlib.Core.Path.{◌∙◌, ap₂}
use mathlib.Core.List.{List, []}
use Rattle.aes.proofs.Ciphers.{under_key}
use Rattle.hmac.specs.Hmac.{hmac_sha256}
use Rattle.siv_ctrmac.specs.SivCtrmac.{sealed, header_of}
use Rattle.siv_ctrmac.proofs.header.seal_header.Goals as goal

pub returns : goal.returns
unfolding header_of
returns c =
    let x = c.args in
    c.seal.ensures
    ∙ ap₂ (λ (e : List ℕ → List ℕ) (s : List ℕ). sealed e (hmac_sha256 x.mac.now) [] x.nonce.now s) (under_key _ _ c.expand.ensures) c.own_payload.ensures
