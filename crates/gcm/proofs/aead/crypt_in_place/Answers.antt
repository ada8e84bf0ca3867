-- `crypt_in_place`: counter mode from the nonce's second block on.
-- Assumes nothing.
use Prim.Native.Nat.{ℕ}
use mathlib.Core.Path.{◌∙◌, ap, sym}
use mathlib.Core.List.{List}
use Rattle.aes_spec.specs.Cipher.{cipher}
use Rattle.ctr.specs.Ctr.{inc32, ctr}
use Rattle.gcm.specs.Gcm as spec
use Rattle.gcm.proofs.Counters.{first_is}
use Rattle.gcm.proofs.aead.crypt_in_place.Goals as goal

pub returns : goal.returns
unfolding spec.crypt
returns c =
    let x = c.args in
    c.crypt_in_place.ensures
    ∙ ap (λ (b : List ℕ). ctr inc32 (cipher 14 x.w.now) b x.text.now) (c.counter.ensures ∙ sym (first_is x.nonce.now c.requires.in_bounds.1))
