-- `padded`: the bytes, copied over zeros.
-- Assumes nothing.
use Prim.Native.Nat.{ℕ, ◌+◌, ◌-◌, ◌≤◌}
use mathlib.Core.Path.{◌∙◌, ap}
use mathlib.Core.List.{List, ◌++◌}
use native.Mathlib.Nat.{zero-add}
use native.Mathlib.Omega.{arith}
use lib.ListN.{length, take, replicate, length-append, length-replicate}
use lib.Seq.{take_all}
use Rattle.octets.proofs.Lists.{drop-replicate}
use Rattle.gcm.proofs.ghash.padded.Goals as goal

pub returns : goal.returns
returns c =
    let s = c.args.s.now in
    let e = c.copy_at.ensures ∙ ap (λ (l : List ℕ). s ++ l) (drop-replicate (0 + length s) 16 0 (omega arith) ∙ ap (λ (k : ℕ). replicate (16 - k) 0) (zero-add (length s))) in
    let n : length (s ++ replicate (16 - length s) 0) ≤ 16 = simp (length-append, length-replicate) (omega arith) in
    c.block_at.ensures ∙ ap (take 16) e ∙ take_all 16 _ n
