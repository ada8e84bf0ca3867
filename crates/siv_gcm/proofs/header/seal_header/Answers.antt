-- `seal_header`: the payload is sealed under the expanded key.
-- Assumes nothing.
use Prim.Native.Nat.{ℕ}
use mathlib.Core.Path.{◌∙◌, ap₂}
use mathlib.Core.List.{List, []}
use Rattle.siv_gcm.specs.SivGcm.{sealed, header_of}
use Rattle.siv_gcm.proofs.header.seal_header.Goals as goal

pub returns : goal.returns
unfolding header_of
returns c =
    c.seal.ensures
    ∙ ap₂ (λ (e : List ℕ → List ℕ) (s : List ℕ). sealed e [] c.args.nonce.now s) c.prepare.ensures.1 c.own_payload.ensures
