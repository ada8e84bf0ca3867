-- `unwrapped`: the steps that are left, from here, are all steps from the start.
-- Assumes nothing.
use Prim.Native.Nat.{ℕ, suc, ◌-◌, ◌<◌, ◌≤◌}
use mathlib.Core.List.{List}
use mathlib.Core.Path.{◌≡◌, sym, ◌∙◌, ap, ap₂}
use native.Mathlib.Omega.{arith}
use lib.ListN.{length, drop, length-drop}
use Rattle.aes_inverse.specs.InverseCipher.{inv_cipher}
use Rattle.key_wrap.specs.KeyWrap.{steps, unwrap_step, unwrap_steps, unwrapped}
use Rattle.octets.specs.Words.{word_bytes}
use Rattle.key_wrap.proofs.steps.unwrapped.Goals as goal

module _ (d : List ℕ → List ℕ) where
  more : (x l : List ℕ) (n : ℕ) → 0 < n → l ≡ unwrap_step d n x → unwrap_steps d (n - 1) l ≡ unwrap_steps d n x
  unfolding unwrap_steps
  more x l n h e =
      let f : n ≡ suc (n - 1) = omega arith in
      ap (unwrap_steps d (n - 1)) (e ∙ ap (λ (k : ℕ). unwrap_step d k x) f) ∙ ap (λ (k : ℕ). unwrap_steps d k x) (sym f)

  done : (s x l : List ℕ) (n : ℕ) → n ≤ 0 → unwrap_steps d n l ≡ unwrap_steps d 24 x → length s ≡ 40 → x ≡ s → l ≡ unwrapped d s
  unfolding unwrap_steps unwrapped
  done s x l n h e k f =
      let z : 0 ≡ n = omega arith in
      let t : 24 ≡ steps (drop 8 s) = let m = length-drop 8 s in omega arith in
      ap (λ (i : ℕ). unwrap_steps d i l) z ∙ e ∙ ap₂ (unwrap_steps d) t f

pub loop-n-preserved : goal.loop-n-preserved
loop-n-preserved c =
    let l = c.loop-n in
    more (inv_cipher 14 c.args.w.now) (word_bytes l.x) (word_bytes c.step_back.new.x) (l.n - 1) (omega arith) c.step_back.ensures ∙ l.invariant

pub returns : goal.returns
returns c =
    let l = c.loop-n in
    let b = c.read-x in
    done (inv_cipher 14 c.args.w.now) c.args.s.now (word_bytes b.result) (word_bytes l.x) (l.n - 1) (omega arith) l.invariant c.requires.s_len b.ensures
