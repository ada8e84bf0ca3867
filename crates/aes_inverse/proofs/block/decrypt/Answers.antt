-- `decrypt`: the rounds that are left, from here, are all rounds from the start.
-- Assumes nothing.
use Prim.Native.Nat.{ℕ, suc, ◌+◌, ◌-◌, ◌≤◌}
use mathlib.Core.List.{List}
use mathlib.Core.Path.{◌≡◌, ◌∙◌, ap, sym}
use native.Mathlib.Omega.{arith}
use Rattle.aes_spec.specs.Cipher.{add_round_key}
use Rattle.aes.specs.Blocks.{state}
use Rattle.aes.proofs.Ciphers.{add_round_key_lem}
use Rattle.aes_inverse.specs.InverseCipher.{inv_shift_rows, inv_sub_bytes, inv_mix_columns, back_rounds, inv_cipher}
use Rattle.aes_inverse.proofs.block.decrypt.Goals as goal

more : (w s l : List ℕ) (n m : ℕ) → n ≡ suc m → l ≡ inv_mix_columns (add_round_key w n (inv_sub_bytes (inv_shift_rows s))) → back_rounds w l m ≡ back_rounds w s n
unfolding back_rounds
more w s l n m f e =
    ap (λ (x : List ℕ). back_rounds w x m) (e ∙ ap (λ (k : ℕ). inv_mix_columns (add_round_key w k (inv_sub_bytes (inv_shift_rows s)))) f) ∙ ap (back_rounds w s) (sym f)

done : (w x s l : List ℕ) (n : ℕ) → n ≤ 0 → back_rounds w l n ≡ back_rounds w s 13 → s ≡ add_round_key w 14 x → add_round_key w 0 (inv_sub_bytes (inv_shift_rows l)) ≡ inv_cipher 14 w x
unfolding back_rounds inv_cipher
done w x s l n h e f =
    let z : 0 ≡ n = omega arith in
    ap (λ (y : List ℕ). add_round_key w 0 (inv_sub_bytes (inv_shift_rows y))) (ap (back_rounds w l) z ∙ e ∙ ap (λ (y : List ℕ). back_rounds w y 13) f)

pub loop-i-preserved : goal.loop-i-preserved
loop-i-preserved c =
    let w = c.args.w.now in
    let l = c.loop-i in
    more w (state l.s) (state c.round-s.result) (13 - l.i) (13 - (l.i + 1)) (omega arith) (c.round-s.ensures w c.requires.unmixed_keys) ∙ l.invariant

pub returns : goal.returns
returns c =
    let x = c.args in
    let l = c.loop-i in
    c.last_round.ensures
    ∙ done x.w.now (state x.x) (state c.add-s.result) (state l.s) (13 - l.i) (omega arith) l.invariant (c.add-s.ensures ∙ add_round_key_lem x.w.now 14 (state x.x) c.round_key.ensures)
