-- The inverse cipher undoes the cipher, and the cipher undoes it: step by step, on blocks, which every step keeps.
-- Assumes nothing.
use Prim.Native.Nat.{ℕ, zero, suc, ◌+◌, ◌-◌, ◌*◌}
use mathlib.Core.Path.{◌≡◌, refl, ap, ◌∙◌}
use mathlib.Core.List.{List}
use Rattle.aes_spec.specs.KeyExpansion.{rounds, key_expansion}
use Rattle.aes_spec.specs.Cipher.{sub_bytes, shift_rows, mix_columns, add_round_key, after_rounds, cipher, aes}
use Rattle.aes_spec.proofs.ByteStrings.{Words, expansion-words}
use Rattle.aes_inverse.specs.InverseCipher.{inv_shift_rows, inv_sub_bytes, inv_mix_columns, back_rounds, inv_cipher, inverse_aes}
use Rattle.aes_inverse.specs.Statements.{Block, Inverses, AesUndone}
use Rattle.aes_inverse.proofs.Steps.{sub_bytes_inverses, shift_rows_inverses, mix_columns_inverses, add_round_key_inverses}

-- ---- one after the other

module _ {e d f g : List ℕ → List ℕ} (p : Inverses e d) (q : Inverses f g) where
  joined : Inverses (λ s. f (e s)) (λ s. d (g s))
  joined = record {
    forward = λ b. q.forward (p.forward b);
    backward = λ b. p.backward (q.backward b);
    undone = λ b. ap d (q.undone (p.forward b)) ∙ p.undone b;
    redone = λ b. ap f (p.redone (q.backward b)) ∙ q.redone b;
  }

-- SUBBYTES and SHIFTROWS.
substituted : Inverses (λ s. shift_rows (sub_bytes s)) (λ s. inv_sub_bytes (inv_shift_rows s))
substituted = joined sub_bytes_inverses shift_rows_inverses

module _ {w : List ℕ} (h : Words w) where
  -- A round, and back.
  round : (r : ℕ) → Inverses (λ s. add_round_key w r (mix_columns (shift_rows (sub_bytes s)))) (λ s. inv_sub_bytes (inv_shift_rows (inv_mix_columns (add_round_key w r s))))
  round r = joined (joined substituted mix_columns_inverses) (add_round_key_inverses h r)

  -- A round of the inverse cipher, which begins with the last two steps of a round back, and back.
  back_round : (r : ℕ) → Inverses (λ s. inv_mix_columns (add_round_key w r (inv_sub_bytes (inv_shift_rows s)))) (λ s. shift_rows (sub_bytes (add_round_key w r (mix_columns s))))
  back_round r =
      let i = substituted in
      let k = add_round_key_inverses h r in
      let m = mix_columns_inverses in
      record {
        forward = λ b. m.backward (k.forward (i.backward b));
        backward = λ b. i.forward (k.forward (m.forward b));
        undone = λ b. ap (λ (s : List ℕ). shift_rows (sub_bytes (add_round_key w r s))) (m.redone (k.forward (i.backward b))) ∙ ap (λ (s : List ℕ). shift_rows (sub_bytes s)) (k.undone (i.backward b)) ∙ i.redone b;
        redone = λ b. ap (λ (s : List ℕ). inv_mix_columns (add_round_key w r s)) (i.undone (k.forward (m.forward b))) ∙ ap inv_mix_columns (k.undone (m.forward b)) ∙ m.undone b;
      }

  rounds-block : (n : ℕ) {s : List ℕ} → Block s → Block (after_rounds w s n)
  unfolding after_rounds
  rounds-block zero b = b
  rounds-block (suc n) b = (round (suc n)).forward (rounds-block n b)

  back_block : (n : ℕ) {s : List ℕ} → Block s → Block (back_rounds w s n)
  unfolding back_rounds
  back_block zero b = b
  back_block (suc n) b = back_block n ((back_round (suc n)).forward b)

  -- The rounds n down to 1 undo the rounds 1 to n, from before the last to before the first key is added.
  rounds-undone : (n : ℕ) {s : List ℕ} → Block s → back_rounds w (shift_rows (sub_bytes (after_rounds w s n))) n ≡ shift_rows (sub_bytes s)
  unfolding after_rounds back_rounds
  rounds-undone zero b = refl
  rounds-undone (suc n) {s} b =
      ap (λ (x : List ℕ). back_rounds w x n) ((back_round (suc n)).redone (substituted.forward (rounds-block n b))) ∙ rounds-undone n b

  rounds-redone : (n : ℕ) {t : List ℕ} → Block t → shift_rows (sub_bytes (after_rounds w (inv_sub_bytes (inv_shift_rows (back_rounds w t n))) n)) ≡ t
  unfolding after_rounds back_rounds
  rounds-redone zero b = substituted.redone b
  rounds-redone (suc n) {t} b =
      let g = back_round (suc n) in
      ap (λ (x : List ℕ). shift_rows (sub_bytes (add_round_key w (suc n) (mix_columns x)))) (rounds-redone n (g.forward b)) ∙ g.undone b

  -- The whole cipher.
  cipher_inverses : (nr : ℕ) → Inverses (cipher nr w) (inv_cipher nr w)
  unfolding cipher inv_cipher
  cipher_inverses nr =
      let i = substituted in
      let first = add_round_key_inverses h 0 in
      let last = add_round_key_inverses h nr in
      let m = nr - 1 in
      record {
        forward = λ b. last.forward (i.forward (rounds-block m (first.forward b)));
        backward = λ b. first.forward (i.backward (back_block m (last.forward b)));
        undone = λ b.
            ap (λ (x : List ℕ). add_round_key w 0 (inv_sub_bytes (inv_shift_rows (back_rounds w x m)))) (last.undone (i.forward (rounds-block m (first.forward b))))
            ∙ ap (λ (x : List ℕ). add_round_key w 0 (inv_sub_bytes (inv_shift_rows x))) (rounds-undone m (first.forward b))
            ∙ ap (add_round_key w 0) (i.undone (first.forward b))
            ∙ first.undone b;
        redone = λ b.
            ap (λ (x : List ℕ). add_round_key w nr (shift_rows (sub_bytes (after_rounds w x m)))) (first.undone (i.backward (back_block m (last.forward b))))
            ∙ ap (add_round_key w nr) (rounds-redone m (last.forward b))
            ∙ last.undone b;
      }

pub aes-undone : AesUndone
unfolding key_expansion aes inverse_aes
aes-undone nk key h = cipher_inverses (expansion-words nk h (4 * (rounds nk + 1) - nk)) (rounds nk)
