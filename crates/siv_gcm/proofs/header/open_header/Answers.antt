-- `open_header`: the tag is tested, and then the payload is deciphered.
-- Assumes nothing.
use borrow.Author.Rules.{rules}
use Prim.Native.Nat.{ℕ}
use mathlib.Core.Path.{◌≡◌, refl, sym, ◌∙◌, ap}
use mathlib.Core.Bool.{false, true}
use mathlib.Core.List.{List, []}
use native.Mathlib.Omega.{arith}
use lib.ListN.{take, take-append-drop}
use lib.Seq.{take_all}
use Rattle.std.proofs.Common.{Some}
use Rattle.aes_spec.specs.Cipher.{aes}
use Rattle.frame.specs.Frame.{reserved_size}
use Rattle.siv_gcm.specs.SivGcm.{opens, opened, head_of, header_good}
use Rattle.siv_gcm.proofs.Sealed.{length-opened}
use Rattle.siv_gcm.proofs.header.open_header.Goals as goal

pub returns-then-not-good : goal.returns-then-not-good
unfolding header_good
returns-then-not-good c =
    let bad : opens (aes 8 c.args.enc.now) [] c.args.header.now ≡ false =
    sym (c.good.ensures ∙ ap (λ (e : List ℕ → List ℕ). opens e [] c.args.header.now) c.prepare.ensures.1) ∙ c.if-not-good.true in
    rw bad refl

pub open_part-requires : goal.open_part-requires
open_part-requires c = record { tagged = (search rules, ([], sym c.good.ensures ∙ c.if-not-good.false)); out_in_bounds = omega (arith, c.requires.enc_len) }

pub returns : goal.returns
unfolding header_good head_of
returns c =
    let x = c.args in
    let b = x.header.now in
    let right : opens (aes 8 x.enc.now) [] b ≡ true =
    sym (c.good.ensures ∙ ap (λ (e : List ℕ → List ℕ). opens e [] b) c.prepare.ensures.1) ∙ c.if-not-good.false in
    let o = opened (aes 8 x.enc.now) b in
    let n = length-opened x.enc.now b in
    let e : c.open_part.new.out ≡ o =
    c.open_part.ensures ∙ ap (λ (e : List ℕ → List ℕ). take 40 (opened e b)) c.prepare.ensures.1 ∙ take_all 40 o (omega (arith, n, c.requires.enc_len)) in
    rw right (ap Some (e ∙ sym (take-append-drop reserved_size o)))
