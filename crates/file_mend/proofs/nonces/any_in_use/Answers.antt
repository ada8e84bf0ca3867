-- `any_in_use`: whether one of all nonces is in use is whether one of those from i on is.
-- Assumes nothing.
use Prim.Native.Nat.{ℕ, ◌*◌, ◌≤◌, ◌<◌}
use mathlib.Core.Path.{◌≡◌, sym, ap, ap₂, ◌∙◌}
use mathlib.Core.List.{List}
use native.Mathlib.Omega.{arith}
use lib.ListN.{length, take, drop}
use borrow.Author.Rules.{rules}
use Rattle.frame.specs.Layout.{Sizes, chunks}
use Rattle.frame.proofs.Steps.{all, front, ends_within}
use Rattle.vault.specs.Vault.{sizes_of}
use Rattle.mend_spec.specs.Mend.{in_use, any_in_use}
use Rattle.mend_spec.proofs.Steps.{any_next, any_none}
use Rattle.file_mend.proofs.nonces.any_in_use.Goals as goal

pub loop-i-init : goal.loop-i-init
loop-i-init c =
    let a = c.args in
    let z = sizes_of a.combo in
    (omega arith, ap₂ (λ (m : ℕ) (l : List ℕ). any_in_use z m l a.file.now (chunks a.n)) (all a.k) (front z.nonce a.nonces.now))

pub nonce-requires : goal.nonce-requires
nonce-requires c =
    let w = c.sizes_of-w.result.nonce in
    let f : w * c.args.k ≤ length c.args.nonces.now = omega (arith, ap (λ (z : Sizes). z.nonce * c.args.k) c.sizes_of-w.ensures, c.requires.0) in
    ends_within w c.args.k c.loop-i.i (length c.args.nonces.now) (search rules) f

pub returns-then-in_use : goal.returns-then-in_use
returns-then-in_use c =
    let a = c.args in
    let z = sizes_of a.combo in
    let found : in_use z (take z.nonce (drop (z.nonce * c.loop-i.i) a.nonces.now)) a.file.now 0 (chunks a.n) ≡ c.in_use.result =
    sym (c.in_use.ensures ∙ ap (λ (x : List ℕ). in_use z x a.file.now 0 (chunks a.n)) (c.nonce.ensures.0 ∙ ap (λ (y : Sizes). take y.nonce (drop (y.nonce * c.loop-i.i) a.nonces.now)) c.sizes_of-w.ensures)) in
    let s = found ∙ c.if-in_use.true in
    let h : c.loop-i.i < a.k = search rules in
    sym (c.loop-i.invariant.1 ∙ any_next z a.file.now a.nonces.now (chunks a.n) c.loop-i.i a.k h ∙ rw s)

pub loop-i-preserved : goal.loop-i-preserved
loop-i-preserved c =
    let a = c.args in
    let z = sizes_of a.combo in
    let found : in_use z (take z.nonce (drop (z.nonce * c.loop-i.i) a.nonces.now)) a.file.now 0 (chunks a.n) ≡ c.in_use.result =
    sym (c.in_use.ensures ∙ ap (λ (x : List ℕ). in_use z x a.file.now 0 (chunks a.n)) (c.nonce.ensures.0 ∙ ap (λ (y : Sizes). take y.nonce (drop (y.nonce * c.loop-i.i) a.nonces.now)) c.sizes_of-w.ensures)) in
    let s = found ∙ c.if-in_use.false in
    let h : c.loop-i.i < a.k = search rules in
    (omega (arith, h), c.loop-i.invariant.1 ∙ any_next z a.file.now a.nonces.now (chunks a.n) c.loop-i.i a.k h ∙ rw s)

pub returns : goal.returns
returns c =
    let a = c.args in
    let z = sizes_of a.combo in
    let h : a.k ≤ c.loop-i.i = search rules in
    sym (c.loop-i.invariant.1 ∙ any_none z a.file.now (drop (z.nonce * c.loop-i.i) a.nonces.now) (chunks a.n) c.loop-i.i a.k h)
