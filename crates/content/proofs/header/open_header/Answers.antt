-- `open_header`: the tests in the rows' order; where the header is good the content key at the front of the buffer, and the reserved bytes in the answer.
-- Assumes nothing.
use borrow.Author.Rules.{rules}
use Prim.Native.Nat.{ℕ}
use mathlib.Core.Path.{◌≡◌, refl, sym, ◌∙◌, ap, ap₂}
use mathlib.Core.Bool.{Bool, true, false, cond}
use mathlib.Core.List.{List, ◌∷◌}
use lib.ListN.{length}
use Rattle.std.proofs.Common.{Some, None}
use Rattle.std.proofs.lemmas.Option.{none-some, cond_some}
use Rattle.octets.specs.Rows.{done, ended}
use Rattle.octets.proofs.Lists.{front_filled}
use Rattle.frame.specs.Layout.{Sizes}
use Rattle.frame.specs.Rules.{KeySizes}
use Rattle.vault.proofs.Payloads.{reserved-part, key-part}
use Rattle.content.proofs.Rows.{open_header_4, open_header_7, open_header_9, open_header_done}
use Rattle.content.proofs.header.open_header.Goals as goal

-- no payload: the header is not good
bad : (b : Bool) (x : List ℕ) → None ≡ cond b (Some x) None → b ≡ false
bad true x e = absurd (none-some _ e)
bad false x e = refl

pub returns-then-header-sizes_of : goal.returns-then-header-sizes_of
returns-then-header-sizes_of c =
    let v = c.args.v in
    let sized : KeySizes v.enc v.mac = (search rules, search rules) in
    let size = ap (λ (z : Sizes). z.header) c.sizes_of.ensures in
    record { out_after = open_header_4 v.combo v.enc v.mac sized _ _ (λ e. c.if-header-sizes_of.true (e ∙ sym size)) }

pub returns-then-out-lt32 : goal.returns-then-out-lt32
returns-then-out-lt32 c =
    let v = c.args.v in
    let sized : KeySizes v.enc v.mac = (search rules, search rules) in
    let size = ap (λ (z : Sizes). z.header) c.sizes_of.ensures in
    record { out_after = open_header_7 v.combo v.enc v.mac sized _ _ (c.if-header-sizes_of.false ∙ size) c.if-out-lt32.true }

pub returns-in_default : goal.returns-in_default
returns-in_default c =
    let v = c.args.v in
    let sized : KeySizes v.enc v.mac = (search rules, search rules) in
    let size = ap (λ (z : Sizes). z.header) c.sizes_of.ensures in
    record { out_after = open_header_9 v.combo v.enc v.mac sized _ _ (c.if-header-sizes_of.false ∙ size) c.if-out-lt32.false (bad _ _ c.in_default.ensures) }

pub returns : goal.returns
returns c =
    let x = c.args in
    let v = x.v in
    let sized : KeySizes v.enc v.mac = (search rules, search rules) in
    let size = ap (λ (z : Sizes). z.header) c.sizes_of.ensures in
    let p = c.in-Some.payload in
    let long : length p ≡ 40 = search rules in
    let opened = cond_some _ _ _ (sym c.in-Some.ensures) in
    let reserved = c.copy_from_slice-2.ensures.after ∙ reserved-part v.enc v.mac x.header.now p v.combo (sym opened.1) in
    let key = c.copy_from_slice.ensures.after ∙ key-part v.enc v.mac x.header.now p v.combo (sym opened.1) long in
    record {
      out_after = ap₂ (λ (l m : List ℕ). ended (done (32 ∷ l)) m) reserved (front_filled _ x.out.now 32 _ c.copy_from_slice.ensures.len key)
          ∙ open_header_done v.combo v.enc v.mac sized _ _ (c.if-header-sizes_of.false ∙ size) c.if-out-lt32.false opened.0;
    }
