-- A block added to the end of a string, and the last string of S2V.
-- Assumes nothing.
use Prim.Native.Nat.{ℕ, ◌+◌, ◌-◌, ◌*◌, ◌<◌, ◌≤◌}
use mathlib.Core.Path.{◌≡◌, sym, ◌∙◌, ap, ap₂}
use mathlib.Core.List.{List, ◌++◌, append_assoc}
use native.Mathlib.Omega.{arith}
use lib.ListN.{length, take, drop, replicate, length-append, length-drop, take-append-drop}
use lib.Seq.{length-take-le, take-add, drop-drop}
use Rattle.octets.specs.Xors.{xors}
use Rattle.octets.proofs.Xors.{length-xors}
use Rattle.siv.specs.Cmac.{chain, cmac_from, cmac}
use Rattle.siv.specs.Siv.{xorend}
use Rattle.siv.proofs.Chains.{chain_front, cmac-parts}

pub length-xorend : (s d : List ℕ) → length d ≡ 16 → 16 ≤ length s → length (xorend s d) ≡ length s
unfolding xorend
length-xorend s d l h =
    let m = length s - length d in
    length-append (take m s) (xors (drop m s) d)
    ∙ ap₂ (λ (x y : ℕ). x + y) (length-take-le m s (omega arith)) (length-xors (drop m s) d (rw length-drop (omega arith)) ∙ length-drop m s) ∙ omega arith

module _ (s d : List ℕ) (l : length d ≡ 16) where
  -- The front of the string is not touched.
  xorend-parts : (at : ℕ) → at + 16 ≤ length s → xorend s d ≡ take at s ++ xorend (drop at s) d
  unfolding xorend
  xorend-parts at h =
      let m = length s - length d in
      let k = length (drop at s) - length d in
      let n : m ≡ at + k = rw length-drop (omega arith) in
      let p : take m s ≡ take at s ++ take k (drop at s) = ap (λ (x : ℕ). take x s) n ∙ take-add at k s in
      let q : drop m s ≡ drop k (drop at s) = ap (λ (x : ℕ). drop x s) n ∙ sym (drop-drop k at s) in
      ap₂ (λ (x y : List ℕ). x ++ xors y d) p q ∙ append_assoc (take at s) (take k (drop at s)) (xors (drop k (drop at s)) d)

  -- CMAC of the string, from its whole blocks and its end.
  pub cmac-end : (e : List ℕ → List ℕ) (k : ℕ) → 16 * k + 16 ≤ length s
      → cmac_from e (chain e (replicate 16 0) s k) (xorend (drop (16 * k) s) d) ≡ cmac e (xorend s d)
  unfolding cmac
  cmac-end e k h =
      let at = 16 * k in
      let a = take at s in
      let z : List ℕ = replicate 16 0 in
      let u : length a ≡ at = length-take-le at s (omega arith) in
      let r : length (drop at s) ≡ length s - at = length-drop at s in
      let v : 0 < length (xorend (drop at s) d) = omega (arith, length-xorend (drop at s) d l (omega arith)) in
      let w : chain e z s k ≡ chain e z a k = ap (λ (x : List ℕ). chain e z x k) (sym (take-append-drop at s)) ∙ chain_front e k z a (drop at s) u in
      ap (λ (x : List ℕ). cmac_from e x (xorend (drop at s) d)) w ∙ sym (cmac-parts e k z a (xorend (drop at s) d) u v) ∙ ap (cmac_from e z) (sym (xorend-parts at h))
