-- `open_header`: the MAC is tested, and then the payload is deciphered.
-- Assumes nothing.
use borrow.Author.Rules.{rules}
use Prim.Native.Nat.{ℕ}
use mathlib.Core.Path.{◌≡◌, refl, sym, ◌∙◌, ap}
use mathlib.Core.Bool.{false, true}
use mathlib.Core.List.{List, []}
use native.Mathlib.Omega.{arith}
use lib.ListN.{take, take-append-drop}
use lib.Seq.{take_all}
use Rattle.std.proofs.Common.{Some}
use Rattle.aes_spec.specs.Cipher.{aes}
use Rattle.aes.proofs.Ciphers.{under_key, length-aes}
use Rattle.hmac.specs.Hmac.{hmac_sha256}
use Rattle.siv_ctrmac.specs.SivCtrmac.{opens, opened, head_of, header_good}
use Rattle.siv_ctrmac.proofs.Sealed.{length-opened}
use Rattle.siv_ctrmac.proofs.header.open_header.Goals as goal

pub returns-then-not-good : goal.returns-then-not-good
unfolding header_good
returns-then-not-good c =
    let bad : opens (hmac_sha256 c.args.mac.now) [] c.args.header.now ≡ false = sym c.good.ensures ∙ c.if-not-good.true in
    rw bad refl

pub open_part-requires : goal.open_part-requires
open_part-requires c = record { tagged = (search rules, (c.args.mac.now, [], sym c.good.ensures ∙ c.if-not-good.false)); out_in_bounds = omega (arith, c.requires.enc_len) }

pub returns : goal.returns
unfolding header_good head_of
returns c =
    let x = c.args in
    let b = x.header.now in
    let right : opens (hmac_sha256 x.mac.now) [] b ≡ true = sym c.good.ensures ∙ c.if-not-good.false in
    let o = opened (aes 8 x.enc.now) b in
    let n = length-opened (aes 8 x.enc.now) (length-aes 8 x.enc.now) b in
    let e : c.open_part.new.out ≡ o =
    c.open_part.ensures ∙ ap (λ (e : List ℕ → List ℕ). take 40 (opened e b)) (under_key _ _ c.expand.ensures) ∙ take_all 40 o (omega (arith, n, c.requires.enc_len)) in
    rw right (ap Some (e ∙ sym (take-append-drop 8 o)))
