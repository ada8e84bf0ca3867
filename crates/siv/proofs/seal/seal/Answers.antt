-- `seal`: the synthetic IV goes to the front of out, and the ciphertext after it.
-- Assumes nothing.
use Prim.Native.Nat.{ℕ}
use mathlib.Core.Path.{◌∙◌, ap, ap₂}
use mathlib.Core.List.{List, ◌++◌}
use lib.ListN.{length}
use Rattle.octets.specs.Words.{word_bytes}
use Rattle.octets.proofs.Lists.{placed-rest}
use Rattle.aes_spec.specs.Cipher.{cipher}
use Rattle.siv.specs.Siv as spec
use Rattle.siv.proofs.seal.seal.Goals as goal

pub returns : goal.returns
unfolding word_bytes spec.seal
returns c =
    let x = c.args in
    let e = cipher 14 x.enc.now in
    placed-rest c.to_bytes.result c.crypt_under.new.out x.out.now c.copy_at.new.dst 16 c.copy_at.ensures (ap length c.to_bytes.ensures)
    ∙ ap₂ (λ (u v : List ℕ). u ++ v) c.to_bytes.ensures c.crypt_under.ensures
    ∙ ap (λ (v : List ℕ). v ++ spec.crypt e v x.cleartext.now) c.s2v-v.ensures
