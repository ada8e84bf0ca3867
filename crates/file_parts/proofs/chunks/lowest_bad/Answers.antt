-- `lowest_bad`: upward from the first chunk; what is sought among all is what is sought from here on.
-- Assumes nothing.
use borrow.Author.Rules.{rules}
use mathlib.Core.Path.{◌≡◌, refl, sym, ap, ◌∙◌}
use native.Mathlib.Omega.{arith}
use Rattle.aes_spec.specs.Cipher.{cipher}
use Rattle.frame.proofs.Filling.{bad_next, bad_here, bad_none}
use Rattle.vault.specs.Vault.{sizes_of}
use Rattle.vault.specs.Under.{good_under}
use Rattle.vault.proofs.Combos.{small_overhead}
use Rattle.file_parts.proofs.chunks.lowest_bad.Goals as goal

pub loop-i-init : goal.loop-i-init
loop-i-init c = (search rules, refl)

pub good-requires : goal.good-requires
good-requires c =
    let o = small_overhead c.args.keys.now.combo in
    (omega (arith, c.chunk_of-chunk.ensures.1, o), omega (arith, c.chunk_of-chunk.ensures.1))

pub returns-then-not-good : goal.returns-then-not-good
returns-then-not-good c =
    let a = c.args in
    let k = a.keys.now in
    let g = good_under k.combo (cipher 14 k.content.w.now) k.mac.now k.header_nonce.now in
    let t = ap (g c.loop-i.i) (sym c.chunk_of-chunk.ensures.0) ∙ sym c.if-not-good.ensures in
    (c.loop-i.invariant.1 ∙ bad_here (sizes_of k.combo) g a.file.now c.loop-i.i a.e (search rules) t, search rules)

pub loop-i-preserved : goal.loop-i-preserved
loop-i-preserved c =
    let a = c.args in
    let k = a.keys.now in
    let g = good_under k.combo (cipher 14 k.content.w.now) k.mac.now k.header_nonce.now in
    let t = ap (g c.loop-i.i) (sym c.chunk_of-chunk.ensures.0) ∙ sym c.if-not-good.ensures in
    (search rules, c.loop-i.invariant.1 ∙ bad_next (sizes_of k.combo) g a.file.now c.loop-i.i a.e (search rules) t)

pub returns : goal.returns
returns c =
    let a = c.args in
    let k = a.keys.now in
    let end : c.loop-i.i ≡ a.e = omega arith in
    c.loop-i.invariant.1 ∙ bad_none (sizes_of k.combo) (good_under k.combo (cipher 14 k.content.w.now) k.mac.now k.header_nonce.now) a.file.now c.loop-i.i a.e (search rules) ∙ end
