-- `in_use`: whether x is the nonce of one of all chunks is whether it is that of one from i on.
-- Assumes nothing.
use Prim.Native.Nat.{ℕ, ◌≤◌, ◌<◌}
use mathlib.Core.Path.{◌≡◌, sym, ap, ap₂, ◌∙◌}
use mathlib.Core.List.{List}
use native.Mathlib.Omega.{arith}
use lib.ListN.{take}
use lib.Seq.{length-take-le}
use borrow.Author.Rules.{rules}
use Rattle.octets.specs.Bytes.{same}
use Rattle.frame.specs.Layout.{Sizes}
use Rattle.frame.proofs.Steps.{all}
use Rattle.vault.specs.Vault.{sizes_of}
use Rattle.vault.proofs.Combos.{nonce_in_chunk, nonce-within}
use Rattle.mend_spec.specs.Mend.{nonce_in, in_use}
use Rattle.mend_spec.proofs.Steps.{in_use-next, in_use_none}
use Rattle.file_mend.proofs.nonces.in_use.Goals as goal

pub loop-i-init : goal.loop-i-init
loop-i-init c =
    let a = c.args in
    (omega arith, ap (in_use (sizes_of a.combo) a.x.now a.file.now 0) (all c.chunks-k.result))

pub chunk_of-chunk-requires : goal.chunk_of-chunk-requires
chunk_of-chunk-requires c = (c.requires, omega (arith, c.chunks-k.ensures))

pub slice_bounds-equal-end : goal.slice_bounds-equal-end
slice_bounds-equal-end c =
    let a = c.args in
    let n = ap (λ (z : Sizes). z.nonce) c.sizes_of-w.ensures in
    sym (length-take-le c.sizes_of-w.result.nonce _ (omega (arith, n, nonce_in_chunk a.combo, nonce-within a.combo, c.chunk_of-chunk.ensures.1, c.requires)))

pub returns-then-equal : goal.returns-then-equal
returns-then-equal c =
    let a = c.args in
    let found : same a.x.now (nonce_in (sizes_of a.combo) a.file.now c.loop-i.i) ≡ c.equal.result =
    sym (c.equal.ensures ∙ ap₂ (λ (z : Sizes) (l : List ℕ). same a.x.now (take z.nonce l)) c.sizes_of-w.ensures c.chunk_of-chunk.ensures.0) in
    let k = c.chunks-k.result in
    let s = found ∙ c.if-equal.true in
    let h : c.loop-i.i < k = search rules in
    sym (ap (in_use (sizes_of a.combo) a.x.now a.file.now 0) (sym c.chunks-k.ensures) ∙ c.loop-i.invariant.1 ∙ in_use-next (sizes_of a.combo) a.file.now a.x.now c.loop-i.i k h ∙ rw s)

pub loop-i-preserved : goal.loop-i-preserved
loop-i-preserved c =
    let a = c.args in
    let found : same a.x.now (nonce_in (sizes_of a.combo) a.file.now c.loop-i.i) ≡ c.equal.result =
    sym (c.equal.ensures ∙ ap₂ (λ (z : Sizes) (l : List ℕ). same a.x.now (take z.nonce l)) c.sizes_of-w.ensures c.chunk_of-chunk.ensures.0) in
    let k = c.chunks-k.result in
    let s = found ∙ c.if-equal.false in
    let h : c.loop-i.i < k = search rules in
    (omega (arith, h), c.loop-i.invariant.1 ∙ in_use-next (sizes_of a.combo) a.file.now a.x.now c.loop-i.i k h ∙ rw s)

pub returns : goal.returns
returns c =
    let k = c.chunks-k.result in
    let a = c.args in
    let h : k ≤ c.loop-i.i = search rules in
    sym (ap (in_use (sizes_of a.combo) a.x.now a.file.now 0) (sym c.chunks-k.ensures) ∙ c.loop-i.invariant.1 ∙ in_use_none (sizes_of a.combo) a.file.now a.x.now c.loop-i.i k h)
