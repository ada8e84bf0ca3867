-- `padded`: the bytes, copied over a bit 1 and zeros.
-- Assumes nothing.
use Prim.Native.Nat.{ℕ, suc, ◌+◌, ◌-◌, ◌<◌, ◌≤◌}
use mathlib.Core.Path.{◌≡◌, ◌∙◌, ap}
use mathlib.Core.List.{List, ◌∷◌, ◌++◌}
use native.Mathlib.Nat.{zero-add}
use native.Mathlib.Omega.{arith}
use lib.ListN.{length, take, drop, set, replicate, length-set, length-append, length-replicate}
use lib.Seq.{take_all, set_split, drop_at, length-take-le}
use Rattle.octets.proofs.Lists.{drop-replicate}
use Rattle.siv.specs.Cmac as spec
use Rattle.siv.proofs.cmac.padded.Goals as goal

ending : (n : ℕ) → n < 16 → drop n (set (replicate {A = ℕ} 16 0) n 128) ≡ 128 ∷ replicate (15 - n) 0
ending n h =
    let z : List ℕ = replicate 16 0 in
    let k : 16 - suc n ≡ 15 - n = omega arith in
    ap (drop n) (set_split z n 128 h) ∙ drop_at (take n z) (128 ∷ drop (suc n) z) n (length-take-le n z (omega arith))
    ∙ ap (λ (l : List ℕ). 128 ∷ l) (drop-replicate (suc n) 16 0 (omega arith) ∙ ap (λ (m : ℕ). replicate m 0) k)

pub copy_at-requires : goal.copy_at-requires
copy_at-requires c =
    let n = length c.args.s.now in
    let m : length (set (replicate {A = ℕ} 16 0) n 128) ≡ 16 = length-set (replicate 16 0) n 128 in
    omega (arith, m)

pub returns : goal.returns
unfolding spec.pad
returns c =
    let s = c.args.s.now in
    let z : List ℕ = set (replicate 16 0) (length s) 128 in
    let d : drop (0 + length s) z ≡ 128 ∷ replicate (15 - length s) 0 = ap (λ (k : ℕ). drop k z) (zero-add (length s)) ∙ ending (length s) c.requires in
    let e = c.copy_at.ensures ∙ ap (λ (l : List ℕ). s ++ l) d in
    let n : length (s ++ (128 ∷ replicate (15 - length s) 0)) ≤ 16 = simp (length-append, length-replicate) (omega arith) in
    c.block_at.ensures ∙ ap (take 16) e ∙ take_all 16 _ n
