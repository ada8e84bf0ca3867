-- `hashed`: associated data, ciphertext and the block of the lengths, one after the other.
-- Assumes nothing.
use Prim.Native.Nat.{ℕ, ◌+◌, ◌*◌, ◌^◌, ◌<◌}
use mathlib.Core.Path.{◌∙◌, ap}
use native.Mathlib.Omega.{arith}
use lib.Arith.{digits_lt}
use lib.Bits.{bit_xor}
use lib.ListN.{length}
use Rattle.ctr.specs.Ctr.{blocks}
use Rattle.gcm.specs.Elements.{value}
use Rattle.gcm.specs.Field as field
use Rattle.gcm.specs.Gcm as spec
use Rattle.gcm.proofs.Hashing.{hash_block, hash_all}
use Rattle.gcm.proofs.ghash.hashed.Goals as goal

pub returns : goal.returns
returns c h e =
    let x = c.args in
    let a = x.aad.now in
    let d = x.ciphertext.now in
    let v = 8 * length a * 2 ^ 64 + 8 * length d in
    let p : 8 * length a < 2 ^ 64 = omega arith in
    let q : 8 * length d < 2 ^ 64 = omega arith in
    c.absorb.ensures h e
    ∙ hash_block h (value c.absorb-z.result) v _ (digits_lt p q) (c.to_bytes.ensures ∙ c.from.ensures)
    ∙ ap (λ (z : ℕ). field.mul (bit_xor z v) h)
    (c.absorb-z.ensures h e ∙ ap (λ (z : ℕ). spec.ghash_from h z (spec.pad d) (blocks (length d))) (c.absorb-y.ensures h e))
    ∙ hash_all h a d (omega arith) (omega arith)
