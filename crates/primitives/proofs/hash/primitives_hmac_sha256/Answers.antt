-- `primitives_hmac_sha256`: the test, and the MAC of the message in three parts.
-- Assumes nothing.
use Prim.Native.Nat.{ℕ, ◌+◌, ◌-◌, ◌/◌, ◌≤◌}
use mathlib.Core.Path.{◌≡◌, refl, sym, ◌∙◌, ap}
use mathlib.Core.List.{List, ◌++◌}
use native.Mathlib.Omega.{arith}
use borrow.Author.Tests.{le-leb}
use lib.ListN.{length, take, drop, take-append-drop}
use lib.Seq.{drop-drop}
use Rattle.octets.specs.Bytes.{placed}
use Rattle.octets.proofs.Lists.{part-rest}
use Rattle.hmac.specs.Hmac.{hmac_sha256}
use Rattle.primitives.specs.Results.{end, hmac_sha256_mac}
use Rattle.primitives.proofs.Ends.{done}
use Rattle.primitives.proofs.hash.primitives_hmac_sha256.Goals as goal

three_parts_lem : (m : List ℕ) (p q : ℕ) → p ≤ q → take p m ++ (take (q - p) (drop p m) ++ take (length m - q) (drop q m)) ≡ m
three_parts_lem m p q h =
    let k : q ≡ p + (q - p) = omega arith in
    let e : drop q m ≡ drop (q - p) (drop p m) = ap (λ (j : ℕ). drop j m) k ∙ sym (drop-drop (q - p) p m) in
    let f = ap (λ (l : List ℕ). take (q - p) (drop p m) ++ l) (part-rest m (length m) q refl ∙ e) ∙ take-append-drop (q - p) (drop p m) in
    ap (λ (l : List ℕ). take p m ++ l) f ∙ take-append-drop p m

pub returns : goal.returns
unfolding hmac_sha256_mac
returns c =
    let x = c.args in
    let m = x.message.now in
    let p = length m / 3 in
    let e = c.mac-code.ensures ∙ ap (hmac_sha256 x.key.now) (three_parts_lem m p (length m - p) (omega arith)) in
    ap (end 1) (c.copy_at.ensures ∙ ap (λ (l : List ℕ). placed l 0 x.out.now) e)
    ∙ done _ _ _ (rw (le-leb _ _ c.if-out-lt32.false))
