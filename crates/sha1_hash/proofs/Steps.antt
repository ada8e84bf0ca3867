-- The 80 steps, one by one and in four runs of 20.
-- Assumes nothing.
use Rattle.std.proofs.Common.{◌≡◌, ℕ, zero, suc, ◌+◌, ◌*◌, ◌/◌, ◌<◌, List, get_or, sym, ap, ◌∙◌, add-zero, add_assoc, add-suc, add-one, arith}
use Rattle.hashing.specs.Operations.{plus, ch, maj}
use Rattle.sha1_hash.specs.Operations.{rotl, parity}
use Rattle.sha1_hash.specs.Compression.{in_quarter, step_function, step_constant, Variables, vars, step, steps}
use Rattle.sha1_hash.specs.Working.{Uses}

-- One step more.
pub steps_more : (w : List ℕ) (t n k g : ℕ) (value : ℕ → ℕ → ℕ → ℕ → Type 0) (x y : Variables) (a b c d e : ℕ) → Uses t value k → n < 20
    → vars a b c d e ≡ steps w t n x → value b c d g
    → y ≡ vars (plus (plus (plus (plus (rotl 5 a) g) e) k) (get_or w (t + n) 0)) a (rotl 30 b) c d
    → y ≡ steps w t (n + 1) x
unfolding steps step
steps_more w t n k g value x y a b c d e u h p r q = q ∙ rw (add-one, ← p, u.function n h b c d g r, u.constant n h)

-- m steps, and n more.
steps_add : (w : List ℕ) (t m n : ℕ) (x : Variables) → steps w t (m + n) x ≡ steps w (t + m) n (steps w t m x)
unfolding steps
steps_add w t m zero x = rw add-zero
steps_add w t m (suc n) x = rw (add-suc, steps_add w t m n x, add_assoc)

pub eighty : (w : List ℕ) (x : Variables) → steps w 0 80 x ≡ steps w 60 20 (steps w 40 20 (steps w 20 20 (steps w 0 20 x)))
eighty w x =
    steps_add w 0 60 20 x ∙ ap (steps w 60 20) (steps_add w 0 40 20 x ∙ ap (steps w 40 20) (steps_add w 0 20 20 x))

-- ---- the function and the constant of each run

quarter : (q n : ℕ) → n < 20 → (20 * q + n) / 20 ≡ q
quarter q n h = omega arith

-- `value` says what the values of the run's function are.
pub uses : (q : ℕ) (value : ℕ → ℕ → ℕ → ℕ → Type 0) → ((b c d r : ℕ) → value b c d r → r ≡ in_quarter ch parity maj parity q b c d)
    → Uses (20 * q) value (in_quarter 0x5a827999 0x6ed9eba1 0x8f1bbcdc 0xca62c1d6 q)
unfolding step_function step_constant
uses q value is = record {
  function = λ n h b c d r v. ap (λ (i : ℕ). in_quarter ch parity maj parity i b c d) (quarter q n h) ∙ sym (is b c d r v);
  constant = λ n h. ap (in_quarter 0x5a827999 0x6ed9eba1 0x8f1bbcdc 0xca62c1d6) (quarter q n h);
}
