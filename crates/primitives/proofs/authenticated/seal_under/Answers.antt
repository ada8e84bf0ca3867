-- `seal_under`: sealing under the expanded key.
-- Assumes nothing.
use Prim.Native.Nat.{ℕ}
use mathlib.Core.Path.{◌∙◌, ap}
use mathlib.Core.List.{List}
use native.Mathlib.Omega.{arith}
use Rattle.gcm.specs.Gcm as spec
use Rattle.primitives.proofs.authenticated.seal_under.Goals as goal

pub seal-requires : goal.seal-requires
seal-requires c = record { nonce_len = (c.requires.key_len.1, c.requires.key_len.2, omega (arith, c.requires.key_len.3)); out_len = c.requires.out_len }

pub returns : goal.returns
returns c =
    let x = c.args in
    c.seal.ensures ∙ ap (λ (e : List ℕ → List ℕ). spec.seal e x.nonce.now x.aad.now x.cleartext.now) c.prepare.ensures.1
