-- `encode`: after i turns i groups are written.
-- Assumes nothing.
use Prim.Native.Nat.{◌+◌, ◌*◌}
use mathlib.Core.Path.{◌≡◌, refl, sym, ◌∙◌}
use mathlib.Core.List.{[], ◌∷◌}
use borrow.Author.Rules.{rules}
use native.Mathlib.Omega.{arith}
use native.Mathlib.Nat.{add-zero}
use lib.ListN.{length, get_or, take, drop}
use lib.Seq.{get_or-drop, take_all}
use Rattle.encoding.specs.Base32.{quintets, encode}
use Rattle.encoding.proofs.Groups.{part-tab, group_more}
use Rattle.encoding.proofs.Quintets.{encode_groups, encode-append}
use Rattle.encoding.proofs.base32.encode.Goals as goal

pub loop-i-init : goal.loop-i-init
unfolding encode quintets
loop-i-init c = (refl, refl)

pub encode_group-requires : goal.encode_group-requires
encode_group-requires c = record { t_value = c.letters-t.ensures; in_bounds = search rules }

pub loop-i-preserved : goal.loop-i-preserved
loop-i-preserved c =
    let l = c.loop-i in
    let x = c.args in
    let s = x.bytes.now in
    let g : take 5 (drop (5 * l.i) s) ≡ get_or s (5 * l.i) 0 ∷ get_or s (5 * l.i + 1) 0 ∷ get_or s (5 * l.i + 2) 0 ∷ get_or s (5 * l.i + 3) 0 ∷ get_or s (5 * l.i + 4) 0 ∷ [] =
    part-tab s (5 * l.i) 5 (omega arith) ∙ simp (get_or-drop, add-zero) in (
      c.out-1.given.1 ∙ l.invariant.0,
      group_more encode 5 8 encode_groups s x.out.now l.out _ l.i l.invariant.1 encode-append _ (sym g) (omega arith) c.encode_group.ensures,
    )

pub returns : goal.returns
returns c =
    let l = c.loop-i in
    let x = c.args in
    let s = x.bytes.now in
    let e : length s ≡ 5 * l.i = omega arith in
    let f : take (5 * l.i) s ≡ s = take_all (5 * l.i) s (omega arith) in
    let g : 8 * l.i ≡ 0 + length (encode s) = omega (arith, encode_groups s l.i e) in
    l.invariant.1 ∙ rw (f, g)
