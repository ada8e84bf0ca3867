-- `accepted`: what leads is the body; then the last characters decide.
-- Assumes nothing.
use Prim.Native.Nat.{ℕ, ◌-◌, ◌*◌, ◌/◌}
use mathlib.Core.Path.{sym, ap, ◌∙◌}
use mathlib.Core.List.{List, map}
use native.Mathlib.Omega.{arith}
use lib.ListN.{length}
use borrow.Author.Tests.{not-true, not-false}
use Rattle.encoding.specs.Base64url.{canonical, value}
use Rattle.encoding.proofs.Answers.{not_whole}
use Rattle.encoding.proofs.Leading.{other_length, by_last, part_of}
use Rattle.encoding.proofs.base64url.accepted.Goals as goal

pub returns-then-not-whole : goal.returns-then-not-whole
returns-then-not-whole c =
    let x = c.args in
    sym (not_whole x.padded x.text.now (sym c.whole.ensures ∙ not-true _ c.if-not-whole.true-raw))

pub pad_length-requires : goal.pad_length-requires
pad_length-requires c = sym c.whole.ensures ∙ not-false _ c.if-not-whole.false-raw

pub returns-then-n-text : goal.returns-then-n-text
returns-then-n-text c =
    let x = c.args in
    other_length x.padded x.text.now x.n c.requires.leading (λ e. c.if-n-text.true (e ∙ ap (λ (r : ℕ). length x.text.now - r) (sym c.pad_length.ensures.0)))

pub returns : goal.returns
returns c =
    let x = c.args in
    let l = c.requires.leading in
    let t = x.text.now in
    let e = c.if-n-text.false ∙ ap (λ (r : ℕ). length t - r) c.pad_length.ensures.0 in
    by_last x.padded t x.n l _ (sym c.whole.ensures ∙ not-false _ c.if-not-whole.false-raw) e
    (c.canonical_end.ensures ∙ ap (λ (s : List ℕ). canonical (map value s)) (part_of t (4 * (x.n / 4)) x.n (omega arith) l.inside))
