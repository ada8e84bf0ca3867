-- The words of a message schedule, one by one: those of the block, and those after them by any rule.
-- Assumes nothing.
use Prim.Native.Nat.{ℕ, suc, ◌+◌, ◌-◌, ◌*◌, ◌<◌, ◌≤◌}
use mathlib.Core.Path.{◌≡◌, sym, ◌∙◌, ap}
use mathlib.Core.List.{List, [], ◌∷◌, ◌++◌}
use native.Mathlib.Omega.{arith}
use native.Mathlib.Nat.{add_assoc}
use native.Mathlib.Numerals.{add-one}
use lib.ListN.{length, take, drop, set}
use lib.Seq.{take-suc-set, get_or-take, get_or-drop}
use Rattle.octets.specs.Words.{word_at, words}
use Rattle.hashing.specs.Schedule.{extended}

-- A list that stands at the front of w, with one element more.
front_more : {l : List ℕ} (w : List ℕ) (i v : ℕ) → i < length w → take i w ≡ l → take (i + 1) (set w i v) ≡ l ++ (v ∷ [])
front_more w i v h e = rw (add-one, take-suc-set w i v h, e)

-- A word of a block, and of the byte string that the block is a part of.
block-word : (s : List ℕ) (at i : ℕ) → i + 4 ≤ 64 → word_at (take 64 (drop at s)) i ≡ word_at s (at + i)
block-word s at i h =
    let a : i < 64 = omega arith in
    let b : i + 1 < 64 = omega arith in
    let c : i + 2 < 64 = omega arith in
    let d : i + 3 < 64 = omega arith in
    rw (get_or-take 64 (drop at s) i 0 a, get_or-take 64 (drop at s) (i + 1) 0 b, get_or-take 64 (drop at s) (i + 2) 0 c, get_or-take 64 (drop at s) (i + 3) 0 d)
    (simp (get_or-drop, add_assoc))

pub words_more : (s w : List ℕ) (at t v : ℕ) → t < 16 → t < length w → take t w ≡ words t (take 64 (drop at s)) → v ≡ word_at s (at + 4 * t)
    → take (t + 1) (set w t v) ≡ words (t + 1) (take 64 (drop at s))
unfolding words
words_more s w at t v k h e f = front_more w t v h e ∙ rw (add-one, block-word s at (4 * t) (omega arith), f)

-- One word more, where the rule looks at the words before it only.
pub extended_more : (next : List ℕ → ℕ → ℕ) → ((w : List ℕ) (t : ℕ) → 16 ≤ t → next (take t w) t ≡ next w t)
    → (x w : List ℕ) (t v : ℕ) → 16 ≤ t → t < length w → take t w ≡ extended next x (t - 16) → v ≡ next w t
    → take (t + 1) (set w t v) ≡ extended next x (t + 1 - 16)
unfolding extended
extended_more next front x w t v h k e f =
    let a : t + 1 - 16 ≡ suc (t - 16) = omega arith in
    let b : t ≡ 16 + (t - 16) = omega arith in
    let g : v ≡ next (extended next x (t - 16)) (16 + (t - 16)) =
    f ∙ sym (front w t h) ∙ ap (λ (l : List ℕ). next l t) e ∙ ap (next (extended next x (t - 16))) b in
    front_more w t v k e ∙ rw a (ap (λ (y : ℕ). extended next x (t - 16) ++ (y ∷ [])) g)
