-- `crypt`: counter mode from the nonce's second block on.
-- Assumes nothing.
use Prim.Native.Nat.{ℕ}
use mathlib.Core.Path.{◌∙◌, ap, sym}
use mathlib.Core.List.{List}
use lib.ListN.{length, take, drop}
use Rattle.aes_spec.specs.Cipher.{cipher}
use Rattle.ctr.specs.Ctr.{inc32, ctr}
use Rattle.gcm.specs.Gcm as spec
use Rattle.gcm.proofs.Counters.{first_is}
use Rattle.gcm.proofs.aead.crypt.Goals as goal

pub returns : goal.returns
unfolding spec.crypt
returns c =
    let x = c.args in
    c.crypt.ensures
    ∙ ap (λ (b : List ℕ). take (length x.out.now) (drop x.lo (ctr inc32 (cipher 14 x.w.now) b x.src.now))) (c.counter.ensures ∙ sym (first_is x.nonce.now c.requires.in_bounds.1))
