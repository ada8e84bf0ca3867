-- `span_of`: the sizes of the combo.
-- Assumes nothing.
use Prim.Native.Nat.{◌+◌, ◌*◌, ◌<◌, ◌≤◌, min}
use mathlib.Core.Path.{◌≡◌, sym, ◌∙◌, ap, subst}
use Rattle.frame.specs.Layout.{Sizes, stored, file_length}
use Rattle.vault.proofs.Combos.{small_overhead}
use Rattle.file_parts.proofs.chunks.span_of.Goals as goal

pub span_by-requires : goal.span_by-requires
span_by-requires c =
    let e = c.sizes_of.ensures in
    (subst (λ (z : Sizes). z.overhead ≤ 48) (sym e) (small_overhead c.args.combo), c.requires.0 ∙ ap (λ (z : Sizes). file_length z c.args.n) (sym e), c.requires.1, c.requires.2)

pub returns : goal.returns
returns c =
    let x = c.args in
    let r = c.span_by.result in
    subst (λ (z : Sizes). (r.start ≡ z.header + stored z * x.i) × (r.end ≡ min (r.start + stored z) x.l) × (r.start + z.overhead < x.l)) c.sizes_of.ensures c.span_by.ensures
