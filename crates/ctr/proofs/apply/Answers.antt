-- `apply`: a whole block by words, a part of one by bytes.
-- Assumes nothing.
use Rattle.std.proofs.Common.{◌≡◌, ℕ, List, drop, ap, ◌∙◌, arith}
use Rattle.octets.specs.Xors.{xors}
use Rattle.octets.proofs.Lists.{placed_all}
use Rattle.aes_spec.specs.Cipher.{cipher}
use Rattle.aes.specs.Blocks.{state}
use Rattle.ctr.proofs.apply.Goals as goal

pub returns-then-src-eq16 : goal.returns-then-src-eq16
returns-then-src-eq16 c =
    let x = c.args in
    let z : 0 ≡ x.r = omega arith in
    c.whole.ensures ∙ ap (λ (m : ℕ). xors x.src.now (drop m (cipher 14 x.w.now (state x.c)))) z

pub returns-else-src-eq16 : goal.returns-else-src-eq16
returns-else-src-eq16 c =
    let x = c.args in
    let e = drop x.r (cipher 14 x.w.now (state x.c)) in
    c.part.ensures ∙ ap (λ (l : List ℕ). xors l e) (c.copy_at.ensures ∙ placed_all x.src.now x.out.now c.requires.in_bounds.2)
