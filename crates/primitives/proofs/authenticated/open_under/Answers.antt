-- `open_under`: the tag is tested under the expanded key, and then the ciphertext is deciphered.
-- Assumes nothing.
use Prim.Native.Nat.{ℕ, ◌-◌, ◌≤◌}
use mathlib.Core.Path.{◌≡◌, refl, sym, ◌∙◌, ap}
use mathlib.Core.List.{List}
use borrow.Author.Tests.{not-true, not-false}
use borrow.Author.Rules.{rules}
use native.Mathlib.Omega.{arith}
use lib.ListN.{length, take}
use lib.Seq.{length-take-le, take_all}
use Rattle.aes_spec.specs.Cipher.{cipher, aes}
use Rattle.aes.proofs.Ciphers.{length-cipher}
use Rattle.gcm.specs.Gcm as spec
use Rattle.gcm.proofs.Laws.{length-crypt}
use Rattle.primitives.proofs.authenticated.open_under.Goals as goal

pub good-requires : goal.good-requires
good-requires c = record { nonce_len = (c.requires.key_len.1, c.requires.key_len.2, omega (arith, c.requires.key_len.3), omega (arith, c.requires.sealed_len)) }

pub returns-then-not-good : goal.returns-then-not-good
returns-then-not-good c =
    let tested : c.good.result ≡ spec.good (aes 8 c.args.key.now) c.args.nonce.now c.args.aad.now c.args.sealed.now =
    c.good.ensures ∙ ap (λ (e : List ℕ → List ℕ). spec.good e c.args.nonce.now c.args.aad.now c.args.sealed.now) c.prepare.ensures.1 in
    record { value = sym (not-true _ c.if-not-good.true-raw) ∙ tested; out_after = refl }

pub slice_bounds-crypt-end-2 : goal.slice_bounds-crypt-end-2
slice_bounds-crypt-end-2 c =
    let s = c.args.sealed.now in
    sym (length-take-le (length s - 16) s (omega arith))

pub crypt-requires : goal.crypt-requires
crypt-requires c =
    let s = c.args.sealed.now in
    let n : length (take (length s - 16) s) ≡ length s - 16 = length-take-le (length s - 16) s (omega arith) in record { in_bounds = (search rules, c.requires.key_len.1, omega (arith, n, c.requires.sealed_len)) }

pub returns : goal.returns
unfolding spec.plain
returns c =
    let tested : c.good.result ≡ spec.good (aes 8 c.args.key.now) c.args.nonce.now c.args.aad.now c.args.sealed.now =
    c.good.ensures ∙ ap (λ (e : List ℕ → List ℕ). spec.good e c.args.nonce.now c.args.aad.now c.args.sealed.now) c.prepare.ensures.1 in
    let x = c.args in
    let s = x.sealed.now in
    let e = cipher 14 c.prepare.new.w in
    let t = spec.crypt e x.nonce.now (take (length s - 16) s) in
    let m : length t ≡ length s - 16 = length-crypt e (length-cipher 14 _) x.nonce.now (take (length s - 16) s) ∙ length-take-le (length s - 16) s (omega arith) in
    let n : length t ≤ length x.out.now = omega (arith, m, c.requires.sealed_len) in record { value = sym (not-false _ c.if-not-good.false-raw) ∙ tested; out_after = c.crypt.ensures ∙ take_all (length x.out.now) t n ∙ ap (λ (f : List ℕ → List ℕ). spec.crypt f x.nonce.now (take (length s - 16) s)) c.prepare.ensures.1 }
