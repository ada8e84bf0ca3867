-- `apply`: a whole block by words, a part of one by bytes.
-- Assumes nothing.
use Rattle.std.proofs.Common.{◌≡◌, ℕ, drop, ap, ◌∙◌, arith}
use Rattle.octets.specs.Xors.{xors}
use Rattle.aes_spec.specs.Cipher.{cipher}
use Rattle.aes.specs.Blocks.{state}
use Rattle.ctr.proofs.in_place.apply.Goals as goal

pub returns-then-text-eq16 : goal.returns-then-text-eq16
returns-then-text-eq16 c =
    let x = c.args in
    let z : 0 ≡ x.r = omega arith in
    c.whole.ensures ∙ ap (λ (m : ℕ). xors x.text.now (drop m (cipher 14 x.w.now (state x.c)))) z
