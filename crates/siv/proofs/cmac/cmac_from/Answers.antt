-- `cmac_from`: the blocks before the last one, and the last.
-- Assumes nothing.
use Prim.Native.Nat.{ℕ, ◌-◌, ◌*◌, ◌/◌}
use mathlib.Core.Path.{◌≡◌, refl, sym, ◌∙◌, ap, ap₂}
use mathlib.Core.List.{List}
use native.Mathlib.Omega.{arith}
use lib.ListN.{length, drop}
use Rattle.octets.specs.Xors.{xors}
use Rattle.octets.proofs.Lists.{part-rest}
use Rattle.aes_spec.specs.Cipher.{cipher}
use Rattle.aes.specs.Blocks.{state}
use Rattle.siv.specs.Cmac as spec
use Rattle.siv.proofs.Chains.{chain_zero}
use Rattle.siv.proofs.cmac.cmac_from.Goals as goal

pub returns-then-s-eq0 : goal.returns-then-s-eq0
unfolding spec.cmac_from
returns-then-s-eq0 c =
    let x = c.args in
    let s = x.s.now in
    let e = cipher 14 x.w.now in
    let k : (length s - 1) / 16 ≡ 0 = omega arith in
    c.encrypt.ensures ∙ ap e (c.add.ensures ∙ ap (xors (state x.c)) c.last_block.ensures)
    ∙ sym (ap (λ (n : ℕ). e (xors (spec.chain e (state x.c) s n) (spec.last_block e (drop (16 * n) s)))) k
    ∙ ap (λ (l : List ℕ). e (xors l (spec.last_block e s))) (chain_zero e (state x.c) s))

pub returns : goal.returns
unfolding spec.cmac_from
returns c =
    let x = c.args in
    let s = x.s.now in
    let e = cipher 14 x.w.now in
    let p = part-rest s (length s) (16 * ((length s - 1) / 16)) refl in
    c.encrypt-2.ensures ∙ ap e (c.add-2.ensures ∙ ap₂ xors c.chain-x.ensures (c.last_block-2.ensures ∙ ap (spec.last_block e) p))
