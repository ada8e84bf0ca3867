-- `write_header`: the tests in the rows' order, and the header at the front of the buffer.
-- Assumes nothing.
use borrow.Author.Rules.{rules}
use Prim.Native.Nat.{ℕ}
use mathlib.Core.Path.{◌≡◌, sym, ◌∙◌, ap}
use mathlib.Core.List.{[], ◌∷◌}
use native.Mathlib.Omega.{arith}
use Rattle.octets.specs.Bytes.{filled}
use Rattle.octets.specs.Rows.{done, ended}
use Rattle.octets.proofs.Lists.{front_filled}
use Rattle.frame.specs.Layout.{Sizes}
use Rattle.frame.specs.Frame.{own_head}
use Rattle.frame.specs.Rules.{KeySizes}
use Rattle.vault.specs.Vault.{sizes_of, codec_of}
use Rattle.content.proofs.Rows.{write_header_1, write_header_7, write_header_done}
use Rattle.content.proofs.header.write_header.Goals as goal

pub returns-then-not-head_right : goal.returns-then-not-head_right
returns-then-not-head_right c =
    let v = c.args.v in
    let sized : KeySizes v.enc v.mac = (search rules, search rules) in
    write_header_1 v.combo v.enc v.mac sized _ _ (sym c.head_right.ensures ∙ c.if-not-head_right.true)

pub returns-then-out-size : goal.returns-then-out-size
returns-then-out-size c =
    let v = c.args.v in
    let sized : KeySizes v.enc v.mac = (search rules, search rules) in
    let size = ap (λ (z : Sizes). z.header) c.sizes_of-size.ensures in
    write_header_7 v.combo v.enc v.mac sized _ _ (sym c.head_right.ensures ∙ c.if-not-head_right.false) (omega (arith, size, c.if-out-size.true))

pub returns : goal.returns
returns c =
    let v = c.args.v in
    let sized : KeySizes v.enc v.mac = (search rules, search rules) in
    let h = own_head c.args.nonce.now c.args.key.now in
    let s = c.seal_header in
    let d = c.args.out.now in
    let n = c.sizes_of-size.result.header in
    let header = (codec_of v).header_of h in
    let size : n ≡ (sizes_of v.combo).header = ap (λ (z : Sizes). z.header) c.sizes_of-size.ensures in
    ap (ended (done (n ∷ []))) (front_filled s.new.out d n header s.auto.out s.ensures)
    ∙ ap (λ (m : ℕ). ended (done (m ∷ [])) (filled header m d)) size
    ∙ write_header_done v.combo v.enc v.mac sized h d (sym c.head_right.ensures ∙ c.if-not-head_right.false) (omega (arith, size, c.if-out-size.false))
