-- `open_under`: where the tag or MAC is right, the whole cleartext is written.
-- Assumes nothing.
use Prim.Native.Nat.{ℕ}
use mathlib.Core.Path.{◌∙◌, ap}
use mathlib.Core.List.{List}
use native.Mathlib.Omega.{arith}
use lib.ListN.{length, take}
use lib.Seq.{take_all}
use Rattle.aes_spec.specs.Cipher.{aes}
use Rattle.aes.proofs.Ciphers.{length-aes}
use Rattle.vault.specs.Under.{opened_under}
use Rattle.vault.proofs.Combos.{opened-size}
use Rattle.content.proofs.chunk.open_under.Goals as goal

pub returns-clause-out_after : goal.returns-clause-out_after
returns-clause-out_after c =
    let x = c.args in
    let k = x.v.now.combo in
    let e = aes 8 x.key.now in
    let n = opened-size k e (length-aes 8 x.key.now) x.chunk.now in
    c.open_part.ensures
    ∙ ap (λ (f : List ℕ → List ℕ). take (length x.out.now) (opened_under k f x.chunk.now)) c.key_tables.ensures.1
    ∙ take_all (length x.out.now) (opened_under k e x.chunk.now) (omega (arith, n, c.requires.out_len_bound.1))
