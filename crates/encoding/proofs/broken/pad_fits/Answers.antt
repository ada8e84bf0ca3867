-- `pad_fits`: '=' as the third of a group, and as the fourth.
-- Assumes nothing.
use mathlib.Core.Path.{◌≡◌, sym, ap, ◌∙◌}
use Prim.Native.Nat.{ℕ, ◌+◌, ◌*◌, ◌/◌, ◌%◌}
use lib.Dec.{leb}
use mathlib.Core.Bool.{or-false}
use borrow.Author.Tests.{ne_eqb, eq-eqb}
use Rattle.encoding.specs.Base64url.{value, pad_character}
use Rattle.encoding.specs.Broken.{pad_fits}
use Rattle.encoding.proofs.broken.pad_fits.Goals as goal

pub returns-then-value_of-ne0 : goal.returns-then-value_of-ne0
unfolding pad_fits
returns-then-value_of-ne0 c =
    let x = c.args in
    let n = ne_eqb (value x.b % 16) 0 (λ e. c.if-value_of-ne0.true (ap (λ (v : ℕ). v % 16) c.value_of.ensures ∙ e)) in
    rw (c.if-i-eq2.true, n)

pub returns-then-i-eq2 : goal.returns-then-i-eq2
unfolding pad_fits
returns-then-i-eq2 c =
    let x = c.args in
    let e : value x.b % 16 ≡ 0 = sym (ap (λ (v : ℕ). v % 16) c.value_of.ensures) ∙ c.if-value_of-ne0.false in
    rw (c.if-i-eq2.true, e) (sym (or-false (leb x.least (x.i / 4 * 3 + 1))))

pub returns-then-i-ne3 : goal.returns-then-i-ne3
unfolding pad_fits
returns-then-i-ne3 c =
    let x = c.args in
    rw (ne_eqb (x.i % 4) 2 c.if-i-eq2.false, ne_eqb (x.i % 4) 3 c.if-i-ne3.true)

pub returns-then-b-eq61 : goal.returns-then-b-eq61
unfolding pad_fits
returns-then-b-eq61 c =
    let x = c.args in
    rw (c.if-i-ne3.false, eq-eqb x.b pad_character c.if-b-eq61.true)

pub returns-then-value_of-ne0-2 : goal.returns-then-value_of-ne0-2
unfolding pad_fits
returns-then-value_of-ne0-2 c =
    let x = c.args in
    let n = ne_eqb (value x.b % 4) 0 (λ e. c.if-value_of-ne0-2.true (ap (λ (v : ℕ). v % 4) c.value_of-2.ensures ∙ e)) in
    rw (c.if-i-ne3.false, ne_eqb x.b pad_character c.if-b-eq61.false, n)

pub returns : goal.returns
unfolding pad_fits
returns c =
    let x = c.args in
    let e : value x.b % 4 ≡ 0 = sym (ap (λ (v : ℕ). v % 4) c.value_of-2.ensures) ∙ c.if-value_of-ne0-2.false in
    rw (c.if-i-ne3.false, ne_eqb x.b pad_character c.if-b-eq61.false, e)
