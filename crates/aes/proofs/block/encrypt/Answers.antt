-- `encrypt`: before the round n the state is that of the rounds before it.
-- Assumes nothing.
use Prim.Native.Nat.{ℕ, suc, ◌+◌, ◌-◌, ◌≤◌}
use mathlib.Core.List.{List}
use mathlib.Core.Path.{◌≡◌, refl, ◌∙◌, ap}
use native.Mathlib.Omega.{arith}
use Rattle.aes_spec.specs.Cipher.{after_rounds, cipher, add_round_key, mix_columns, shift_rows, sub_bytes}
use Rattle.aes.specs.Blocks.{state}
use Rattle.aes.proofs.Ciphers.{add_round_key_lem}
use Rattle.aes.proofs.block.encrypt.Goals as goal

module _ (w s l : List ℕ) (n : ℕ) (e : l ≡ after_rounds w s (n - 1)) where
  more : 1 ≤ n → add_round_key w n (mix_columns (shift_rows (sub_bytes l))) ≡ after_rounds w s (n + 1 - 1)
  unfolding after_rounds
  more h =
      let p : n + 1 - 1 ≡ suc (n - 1) = omega arith in
      let q : n ≡ suc (n - 1) = omega arith in
      rw (p, e) (ap (λ (m : ℕ). add_round_key w m (mix_columns (shift_rows (sub_bytes (after_rounds w s (n - 1)))))) q)

  done : (x : List ℕ) (nr : ℕ) → n ≡ nr → s ≡ add_round_key w 0 x → add_round_key w nr (shift_rows (sub_bytes l)) ≡ cipher nr w x
  unfolding cipher
  done x nr h f = rw (e, h, f)

pub loop-n-init : goal.loop-n-init
unfolding after_rounds
loop-n-init c = refl

pub loop-n-preserved : goal.loop-n-preserved
loop-n-preserved c = c.round-s.ensures ∙ more _ _ _ _ c.loop-n.invariant c.loop-n.auto.n

pub returns : goal.returns
returns c =
    let x = c.args in
    c.last_round.ensures ∙ done _ _ _ _ c.loop-n.invariant _ 14 (omega arith) (c.add-s.ensures ∙ add_round_key_lem x.w.now 0 (state x.x) c.round_key.ensures)
