-- `crypt_under`: counter mode from the first counter block on.
-- Assumes nothing.
use Prim.Native.Nat.{ℕ, ◌≤◌}
use mathlib.Core.Path.{◌∙◌, ap}
use mathlib.Core.List.{List}
use native.Mathlib.Omega.{arith}
use lib.ListN.{length}
use lib.Seq.{take_all}
use Rattle.aes_spec.specs.Cipher.{cipher}
use Rattle.aes.specs.Blocks.{state}
use Rattle.aes.proofs.Ciphers.{length-cipher}
use Rattle.ctr.specs.Ctr.{inc128, ctr}
use Rattle.ctr.proofs.Texts.{length-ctr}
use Rattle.siv.specs.Siv as spec
use Rattle.siv.proofs.seal.crypt_under.Goals as goal

pub returns : goal.returns
unfolding spec.crypt
returns c =
    let q = c.counter_of in
    let x = c.args in
    let e = cipher 14 x.enc.now in
    let t = ctr inc128 e (state q.result) x.src.now in
    let n : length t ≤ length x.out.now = omega (arith, length-ctr inc128 e (length-cipher 14 x.enc.now) (state q.result) x.src.now, c.requires.in_bounds.1) in
    c.crypt.ensures ∙ take_all (length x.out.now) t n ∙ ap (λ (l : List ℕ). ctr inc128 e l x.src.now) q.ensures
