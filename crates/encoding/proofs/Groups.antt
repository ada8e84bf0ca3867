-- A buffer that is written group by group: f makes b characters of each a.
-- Assumes nothing.
use Prim.Native.Nat.{ℕ, ◌+◌, ◌-◌, ◌*◌, ◌≤◌}
use mathlib.Core.Path.{◌≡◌, sym, ap, ◌∙◌}
use mathlib.Core.List.{List, ◌++◌}
use native.Mathlib.Nat.{mul-suc, mul-one}
use native.Mathlib.Numerals.{add-one}
use native.Mathlib.Omega.{arith}
use lib.ListN.{length, get_or, take, drop, take-append-drop, length-drop}
use lib.Seq.{take-add, length-take-le}
use Rattle.octets.specs.Bytes.{placed}
use Rattle.octets.proofs.Lists.{placed_more, placed_end, tab, take-tab}

-- A part of a list, written out.
pub part-tab : (s : List ℕ) (at k : ℕ) → at + k ≤ length s → take k (drop at s) ≡ tab k (λ j. get_or (drop at s) j 0)
part-tab s at k h = take-tab k (drop at s) (simp length-drop (omega arith))

-- o is d with n groups of s written.
abbrev pub written : (List ℕ → List ℕ) → ℕ → ℕ → List ℕ → List ℕ → ℕ → List ℕ
written f a b s d n = f (take (a * n) s) ++ drop (b * n) d

module _ (f : List ℕ → List ℕ) (a b : ℕ) (len : (x : List ℕ) (n : ℕ) → length x ≡ a * n → length (f x) ≡ b * n) where
  module _ (s d o part : List ℕ) (n : ℕ) (begun : o ≡ written f a b s d n) where
    -- One group more, g, goes to the rest of the buffer.
    pub group_more : ((x y : List ℕ) (n : ℕ) → length x ≡ a * n → f (x ++ y) ≡ f x ++ f y) → (g : List ℕ) → g ≡ take a (drop (a * n) s) → a * n + a ≤ length s
        → part ≡ placed (f g) 0 (take (length o - b * n) (drop (b * n) o))
        → take (b * n) o ++ (part ++ drop (length o - b * n) (drop (b * n) o)) ≡ written f a b s d (n + 1)
    group_more app g e h p =
        let l : length (take (a * n) s) ≡ a * n = length-take-le (a * n) s (omega arith) in
        let j : length (drop (a * n) s) ≡ length s - a * n = length-drop (a * n) s in
        let k : length g ≡ a * 1 = ap length e ∙ length-take-le a (drop (a * n) s) (omega arith) ∙ sym (mul-one a) in
        let m : b * n + length (f g) ≡ b * n + b = ap (λ (k : ℕ). b * n + k) (len g 1 k ∙ mul-one b) in
        let q : f (take (a * n) s) ++ f g ≡ f (take (a * n + a) s) = sym (app (take (a * n) s) g n l) ∙ ap (λ (r : List ℕ). f (take (a * n) s ++ r)) e ∙ ap f (sym (take-add (a * n) a s)) in
        placed_more (f (take (a * n) s)) (f g) d o part (b * n) (len (take (a * n) s) n l) begun p
        ∙ rw (q, m, add-one, mul-suc, mul-suc)

    -- The end, which g makes of what is left.
    pub group_end : (g : List ℕ → List ℕ) → ((x y : List ℕ) (n : ℕ) → length x ≡ a * n → g (x ++ y) ≡ f x ++ g y) → a * n ≤ length s
        → part ≡ placed (g (drop (a * n) s)) 0 (take (length o - b * n) (drop (b * n) o))
        → take (b * n) o ++ (part ++ drop (length o - b * n) (drop (b * n) o)) ≡ placed (g s) 0 d
    group_end g app h p =
        let l : length (take (a * n) s) ≡ a * n = length-take-le (a * n) s h in
        placed_end (f (take (a * n) s)) (g (drop (a * n) s)) (g s) d o part (b * n) (len (take (a * n) s) n l) begun p
        (sym (app (take (a * n) s) (drop (a * n) s) n l) ∙ ap g (take-append-drop (a * n) s))
