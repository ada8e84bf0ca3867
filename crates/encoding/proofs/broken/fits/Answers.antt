-- `fits`: a character of the alphabet by the number of bytes, '=' by its place.
-- Assumes nothing.
use mathlib.Core.Path.{◌≡◌, sym, ap, ◌∙◌}
use Prim.Native.Nat.{ℕ, suc, ◌+◌}
use native.Mathlib.Omega.{arith}
use lib.Dec.{leb}
use lib.ListN.{get_or}
use borrow.Author.Tests.{not-true, not-false}
use Rattle.encoding.specs.Broken.{fewest_bytes, pad_fits}
use Rattle.encoding.specs.Leading.{before}
use Rattle.encoding.proofs.Fitting.{after-padding, by_number, no_padding_here, not_padding, by_padding}
use Rattle.encoding.proofs.broken.fits.Goals as goal

pub returns-then-b-eq61 : goal.returns-then-b-eq61
returns-then-b-eq61 c =
    let x = c.args in
    let t = x.text.now in
    after-padding x.padded x.least (λ n. leb n x.most) x.i (before t x.i) (get_or t x.i 0) (omega (arith, c.if-v-lt64.true, c.value_of-v.ensures)) (sym c.character_before-b.ensures ∙ c.if-b-eq61.true)

pub returns-then-v-lt64 : goal.returns-then-v-lt64
returns-then-v-lt64 c =
    let x = c.args in
    let t = x.text.now in
    let e : x.i + 1 ≡ suc x.i = omega arith in
    ap (λ (n : ℕ). leb n x.most) (c.fewest_bytes.ensures ∙ ap (λ (n : ℕ). fewest_bytes n c.value_of-v.result) e ∙ ap (fewest_bytes (suc x.i)) c.value_of-v.ensures)
    ∙ by_number x.padded x.least (λ n. leb n x.most) x.i (before t x.i) (get_or t x.i 0) (omega (arith, c.if-v-lt64.true, c.value_of-v.ensures)) (λ q. c.if-b-eq61.false (c.character_before-b.ensures ∙ q))

pub returns-then-not-padded : goal.returns-then-not-padded
returns-then-not-padded c =
    let x = c.args in
    let t = x.text.now in
    no_padding_here x.padded x.least (λ n. leb n x.most) x.i (before t x.i) (get_or t x.i 0) (omega (arith, c.if-v-lt64.false, c.value_of-v.ensures)) (not-true _ c.if-not-padded.true-raw)

pub returns-then-text-i-ne61 : goal.returns-then-text-i-ne61
returns-then-text-i-ne61 c =
    let x = c.args in
    let t = x.text.now in
    not_padding x.padded x.least (λ n. leb n x.most) x.i (before t x.i) (get_or t x.i 0) (omega (arith, c.if-v-lt64.false, c.value_of-v.ensures)) c.if-text-i-ne61.true

pub returns : goal.returns
returns c =
    let x = c.args in
    let t = x.text.now in
    c.pad_fits.ensures ∙ ap (pad_fits x.least x.i) c.character_before-b.ensures
    ∙ by_padding x.padded x.least (λ n. leb n x.most) x.i (before t x.i) (get_or t x.i 0) (omega (arith, c.if-v-lt64.false, c.value_of-v.ensures)) (not-false _ c.if-not-padded.false-raw) c.if-text-i-ne61.false
