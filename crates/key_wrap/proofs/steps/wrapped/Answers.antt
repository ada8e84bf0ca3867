-- `wrapped`: before step n the registers are those of the steps before it.
-- Assumes nothing.
use Prim.Native.Nat.{ℕ, suc, ◌+◌, ◌-◌, ◌≤◌}
use mathlib.Core.List.{List, ◌++◌}
use mathlib.Core.Path.{◌≡◌, refl, ◌∙◌, ap, ap₂}
use native.Mathlib.Omega.{arith}
use lib.ListN.{length}
use Rattle.aes_spec.specs.Cipher.{cipher}
use Rattle.key_wrap.specs.KeyWrap.{initial_value, steps, wrap_step, wrap_steps, wrap}
use Rattle.octets.specs.Words.{word_bytes}
use Rattle.key_wrap.proofs.steps.wrapped.Goals as goal

module _ (e : List ℕ → List ℕ) (x l : List ℕ) (n : ℕ) (h : l ≡ wrap_steps e (n - 1) x) where
  more : 1 ≤ n → wrap_step e n l ≡ wrap_steps e (n + 1 - 1) x
  unfolding wrap_steps
  more i =
      let p : n + 1 - 1 ≡ suc (n - 1) = omega arith in
      let q : n ≡ suc (n - 1) = omega arith in
      rw (p, h) (ap (λ (k : ℕ). wrap_step e k (wrap_steps e (n - 1) x)) q)

  done : (key : List ℕ) → length key ≡ 32 → n ≡ 25 → x ≡ initial_value ++ key → l ≡ wrap e key
  unfolding wrap
  done key k f g =
      let s : n - 1 ≡ steps key = omega arith in
      h ∙ ap₂ (wrap_steps e) s g

pub loop-n-init : goal.loop-n-init
unfolding wrap_steps
loop-n-init c = refl

pub loop-n-preserved : goal.loop-n-preserved
loop-n-preserved c =
    let l = c.loop-n in
    c.step.ensures ∙ more (cipher 14 c.args.w.now) (word_bytes c.begin-x.result) (word_bytes l.x) l.n l.invariant l.auto.n

pub returns : goal.returns
returns c =
    let l = c.loop-n in
    let b = c.begin-x in
    done (cipher 14 c.args.w.now) (word_bytes b.result) (word_bytes l.x) l.n l.invariant c.args.key.now c.requires.key_len (omega arith) b.ensures
