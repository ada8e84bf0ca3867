-- The chain of CMAC block by block, and part by part.
-- Assumes nothing.
use Prim.Native.Nat.{ℕ, zero, suc, ◌+◌, ◌-◌, ◌*◌, ◌<◌}
use mathlib.Core.Path.{◌≡◌, refl, sym, ◌∙◌, ap, ap₂}
use mathlib.Core.List.{List, [], ◌∷◌, ◌++◌}
use native.Mathlib.Omega.{arith}
use native.Mathlib.Nat.{zero-add, suc-add}
use lib.ListN.{length, take, drop, length-append, length-drop}
use lib.Seq.{drop-append-le, take-append-le, drop-append-add, drop-drop}
use Rattle.octets.specs.Xors.{xors}
use Rattle.siv.specs.Cmac.{chain, before, last_block, cmac_from}

module _ (e : List ℕ → List ℕ) where
  chain_suc : (c m : List ℕ) (n : ℕ) → chain e c m (suc n) ≡ chain e (e (xors c (take 16 m))) (drop 16 m) n
  unfolding chain
  chain_suc c m n = refl

  pub chain_zero : (c m : List ℕ) → chain e c m 0 ≡ c
  unfolding chain
  chain_zero c m = refl

  -- One block, of those that are left from block i on.
  pub chain-step : (c m b x : List ℕ) (n i : ℕ) → i < n → b ≡ take 16 (drop (16 * i) m) → x ≡ e (xors c b)
      → chain e c (drop (16 * i) m) (n - i) ≡ chain e x (drop (16 * (i + 1)) m) (n - (i + 1))
  chain-step c m b x n i h p q =
      let k : n - i ≡ suc (n - (i + 1)) = omega arith in
      let f : 16 * i + 16 ≡ 16 * (i + 1) = omega arith in
      let d : drop 16 (drop (16 * i) m) ≡ drop (16 * (i + 1)) m = drop-drop 16 (16 * i) m ∙ ap (λ (y : ℕ). drop y m) f in
      ap (chain e c (drop (16 * i) m)) k ∙ chain_suc c (drop (16 * i) m) (n - (i + 1))
      ∙ ap₂ (λ (y z : List ℕ). chain e y z (n - (i + 1))) (ap (λ (y : List ℕ). e (xors c y)) (sym p) ∙ sym q) d

  -- Two parts, of which the first is whole blocks.
  chain-parts : (n m : ℕ) (c a b : List ℕ) → length a ≡ 16 * n → chain e c (a ++ b) (n + m) ≡ chain e (chain e c a n) b m
  chain-parts zero m c [] b l = rw (zero-add, chain_zero)
  chain-parts zero m c (x ∷ a) b l = absurd (omega arith)
  chain-parts (suc n) m c a b l =
      let k : length (drop 16 a) ≡ 16 * n = rw length-drop (omega arith) in
      rw (suc-add, chain_suc, chain_suc, take-append-le 16 a b (omega arith), drop-append-le 16 a b (omega arith))
      (chain-parts n m (e (xors c (take 16 a))) (drop 16 a) b k)

  pub chain_front : (n : ℕ) (c a b : List ℕ) → length a ≡ 16 * n → chain e c (a ++ b) n ≡ chain e c a n
  chain_front n c a b l = let k : n ≡ n + 0 = omega arith in ap (chain e c (a ++ b)) k ∙ chain-parts n 0 c a b l ∙ chain_zero (chain e c a n) b

  -- CMAC goes on from a chain of whole blocks.
  pub cmac-parts : (n : ℕ) (c a b : List ℕ) → length a ≡ 16 * n → 0 < length b → cmac_from e c (a ++ b) ≡ cmac_from e (chain e c a n) b
  unfolding cmac_from
  cmac-parts n c a b l h =
      let m = before e b in
      let k : before e (a ++ b) ≡ n + m = rw length-append (omega arith) in
      let f : 16 * (n + m) ≡ length a + 16 * m = omega arith in
      let d : drop (16 * (n + m)) (a ++ b) ≡ drop (16 * m) b = ap (λ (y : ℕ). drop y (a ++ b)) f ∙ drop-append-add a b (16 * m) in
      ap (λ (y : ℕ). e (xors (chain e c (a ++ b) y) (last_block e (drop (16 * y) (a ++ b))))) k
      ∙ ap₂ (λ (y z : List ℕ). e (xors y (last_block e z))) (chain-parts n m c a b l) d
