-- What goes on well behind the first byte of a character: by its range, so many tails.
-- Assumes nothing.
use Prim.Native.Nat.{ℕ, ◌<◌, ◌≤◌}
use mathlib.Core.Path.{◌≡◌, ◌∙◌}
use mathlib.Core.Bool.{true, false, ◌&&◌, ◌||◌, and-true, and-false, and_assoc, or-false}
use mathlib.Core.List.{List, [], ◌∷◌}
use mathlib.Core.Logic.{⊎_elim}
use native.Mathlib.Omega.{arith}
use Rattle.octets.proofs.Lists.{le_or_lt}
use Rattle.utf8.specs.Utf8.{within, tail, utf8_1, utf8_2, utf8_3, utf8_4, well_formed}
use Rattle.utf8.specs.Continued.{continued}
use Rattle.utf8.proofs.Ranges.{ranged, under, over}

-- ---- by which of the four a first byte may begin

module _ (a : ℕ) where
  -- Only the first, the second, the third, the fourth, or none of them.
  only_one : utf8_1 a ≡ true → ((b : ℕ) → utf8_2 a b ≡ false) → ((b c : ℕ) → utf8_3 a b c ≡ false) → ((b c d : ℕ) → utf8_4 a b c d ≡ false)
      → (s : List ℕ) → well_formed (a ∷ s) ≡ well_formed s
  unfolding well_formed
  only_one p n2 n3 n4 [] = p
  only_one p n2 n3 n4 (b ∷ []) = rw (p, n2 b, or-false)
  only_one p n2 n3 n4 (b ∷ c ∷ []) = rw (p, n2 b, n3 b c, or-false, or-false)
  only_one p n2 n3 n4 (b ∷ c ∷ d ∷ s) =
      let x = well_formed (b ∷ c ∷ d ∷ s) in
      rw (p, n2 b, n3 b c, n4 b c d) (or-false (x || false || false) ∙ or-false (x || false) ∙ or-false x)

  module _ (n1 : utf8_1 a ≡ false) where
    only_two : ((b : ℕ) → utf8_2 a b ≡ tail b) → ((b c : ℕ) → utf8_3 a b c ≡ false) → ((b c d : ℕ) → utf8_4 a b c d ≡ false)
        → (s : List ℕ) → well_formed (a ∷ s) ≡ continued 1 0x80 0xbf s
    unfolding well_formed continued
    only_two p n3 n4 [] = n1
    only_two p n3 n4 (b ∷ []) = rw (n1, p b, and-true)
    only_two p n3 n4 (b ∷ c ∷ []) = rw (n1, p b, n3 b c, or-false)
    only_two p n3 n4 (b ∷ c ∷ d ∷ s) = rw (n1, p b, n3 b c, n4 b c d, or-false, or-false)

    module _ (n2 : (b : ℕ) → utf8_2 a b ≡ false) where
      only_three : (lo hi : ℕ) → ((b c : ℕ) → utf8_3 a b c ≡ (within lo hi b && tail c)) → ((b c d : ℕ) → utf8_4 a b c d ≡ false)
          → (s : List ℕ) → well_formed (a ∷ s) ≡ continued 2 lo hi s
      unfolding well_formed continued
      only_three lo hi p n4 [] = n1
      only_three lo hi p n4 (b ∷ []) = rw (n1, n2 b, and-false)
      only_three lo hi p n4 (b ∷ c ∷ []) = rw (n1, n2 b, p b c, and-true)
      only_three lo hi p n4 (b ∷ c ∷ d ∷ s) = rw (n1, n2 b, p b c, n4 b c d, or-false) (and_assoc (within lo hi b) (tail c) (well_formed (d ∷ s)))

      module _ (n3 : (b c : ℕ) → utf8_3 a b c ≡ false) where
        only_four : (lo hi : ℕ) → ((b c d : ℕ) → utf8_4 a b c d ≡ (within lo hi b && tail c && tail d)) → (s : List ℕ) → well_formed (a ∷ s) ≡ continued 3 lo hi s
        unfolding well_formed continued
        only_four lo hi p [] = n1
        only_four lo hi p (b ∷ []) = rw (n1, n2 b, and-false)
        only_four lo hi p (b ∷ c ∷ []) = rw (n1, n2 b, n3 b c, and-false, and-false)
        only_four lo hi p (b ∷ c ∷ d ∷ s) =
            rw (n1, n2 b, n3 b c, p b c d)
            (and_assoc (within lo hi b && tail c) (tail d) (well_formed s) ∙ and_assoc (within lo hi b) (tail c) (tail d && well_formed s))

        none_of : ((b c d : ℕ) → utf8_4 a b c d ≡ false) → (s : List ℕ) → well_formed (a ∷ s) ≡ false
        unfolding well_formed
        none_of n4 [] = n1
        none_of n4 (b ∷ []) = rw (n1, n2 b)
        none_of n4 (b ∷ c ∷ []) = rw (n1, n2 b, n3 b c)
        none_of n4 (b ∷ c ∷ d ∷ s) = rw (n1, n2 b, n3 b c, n4 b c d)

-- ---- by its range

module _ (a : ℕ) where
  not_one : 0x7f < a → utf8_1 a ≡ false
  unfolding utf8_1
  not_one h = over 0x00 0x7f a h

  under_two : a < 0xc2 → (b : ℕ) → utf8_2 a b ≡ false
  unfolding utf8_2
  under_two h b = rw (under 0xc2 0xdf a h)

  over_two : 0xdf < a → (b : ℕ) → utf8_2 a b ≡ false
  unfolding utf8_2
  over_two h b = rw (over 0xc2 0xdf a h)

  under_three : a < 0xe0 → (b c : ℕ) → utf8_3 a b c ≡ false
  unfolding utf8_3
  under_three h b c = rw (under 0xe0 0xe0 a h, under 0xe1 0xec a (omega arith), under 0xed 0xed a (omega arith), under 0xee 0xef a (omega arith))

  over_three : 0xef < a → (b c : ℕ) → utf8_3 a b c ≡ false
  unfolding utf8_3
  over_three h b c = rw (over 0xe0 0xe0 a (omega arith), over 0xe1 0xec a (omega arith), over 0xed 0xed a (omega arith), over 0xee 0xef a h)

  under_four : a < 0xf0 → (b c d : ℕ) → utf8_4 a b c d ≡ false
  unfolding utf8_4
  under_four h b c d = rw (under 0xf0 0xf0 a h, under 0xf1 0xf3 a (omega arith), under 0xf4 0xf4 a (omega arith))

  over_four : 0xf4 < a → (b c d : ℕ) → utf8_4 a b c d ≡ false
  unfolding utf8_4
  over_four h b c d = rw (over 0xf0 0xf0 a (omega arith), over 0xf1 0xf3 a (omega arith), over 0xf4 0xf4 a h)

module _ (a : ℕ) (s : List ℕ) where
  pub behind_one : a < 0x80 → well_formed (a ∷ s) ≡ well_formed s
  unfolding utf8_1
  behind_one h = only_one a (ranged 0x00 0x7f a (omega arith) (omega arith)) (under_two a (omega arith)) (under_three a (omega arith)) (under_four a (omega arith)) s

  pub behind_stray : 0x80 ≤ a → a < 0xc2 → well_formed (a ∷ s) ≡ false
  behind_stray l h = none_of a (not_one a (omega arith)) (under_two a h) (under_three a (omega arith)) (under_four a (omega arith)) s

  pub behind-two : 0xc2 ≤ a → a < 0xe0 → well_formed (a ∷ s) ≡ continued 1 0x80 0xbf s
  unfolding utf8_2
  behind-two l h = only_two a (not_one a (omega arith)) (λ b. rw (ranged 0xc2 0xdf a l (omega arith))) (under_three a h) (under_four a (omega arith)) s

  pub behind_none : 0xf4 < a → well_formed (a ∷ s) ≡ false
  behind_none h = none_of a (not_one a (omega arith)) (over_two a (omega arith)) (over_three a (omega arith)) (over_four a h) s

-- Three bytes: by the four alternatives.
module _ (a : ℕ) (l : 0xe0 ≤ a) (h : a < 0xf0) (s : List ℕ) where
  three_goes : (lo hi : ℕ) → ((b c : ℕ) → utf8_3 a b c ≡ (within lo hi b && tail c)) → well_formed (a ∷ s) ≡ continued 2 lo hi s
  three_goes lo hi p = only_three a (not_one a (omega arith)) (over_two a (omega arith)) lo hi p (under_four a h) s

  pub behind_e0 : a ≡ 0xe0 → well_formed (a ∷ s) ≡ continued 2 0xa0 0xbf s
  unfolding utf8_3
  behind_e0 e = three_goes 0xa0 0xbf (λ b c. rw (e, or-false, or-false, or-false))

  pub behind_ed : a ≡ 0xed → well_formed (a ∷ s) ≡ continued 2 0x80 0x9f s
  unfolding utf8_3
  behind_ed e = three_goes 0x80 0x9f (λ b c. rw (e, or-false))

  pub behind_three : (a ≡ 0xe0 → ⊥) → (a ≡ 0xed → ⊥) → well_formed (a ∷ s) ≡ continued 2 0x80 0xbf s
  unfolding utf8_3
  behind_three n m =
      three_goes 0x80 0xbf
      (λ b c.
      ⊎_elim (λ (k : 0xee ≤ a). rw (over 0xe0 0xe0 a (omega arith), over 0xe1 0xec a (omega arith), over 0xed 0xed a (omega arith), ranged 0xee 0xef a k (omega arith)))
      (λ (k : a < 0xee).
      rw (over 0xe0 0xe0 a (omega (arith, n)), ranged 0xe1 0xec a (omega (arith, n)) (omega (arith, m)), under 0xed 0xed a (omega (arith, m)), under 0xee 0xef a k, or-false, or-false))
      (le_or_lt 0xee a))

-- Four bytes: by the three alternatives.
module _ (a : ℕ) (l : 0xf0 ≤ a) (s : List ℕ) where
  four_goes : (lo hi : ℕ) → ((b c d : ℕ) → utf8_4 a b c d ≡ (within lo hi b && tail c && tail d)) → well_formed (a ∷ s) ≡ continued 3 lo hi s
  four_goes lo hi p = only_four a (not_one a (omega arith)) (over_two a (omega arith)) (over_three a (omega arith)) lo hi p s

  pub behind_f0 : a ≡ 0xf0 → well_formed (a ∷ s) ≡ continued 3 0x90 0xbf s
  unfolding utf8_4
  behind_f0 e = four_goes 0x90 0xbf (λ b c d. rw (e, or-false, or-false))

  pub behind_four : (a ≡ 0xf0 → ⊥) → a < 0xf4 → well_formed (a ∷ s) ≡ continued 3 0x80 0xbf s
  unfolding utf8_4
  behind_four n k =
      four_goes 0x80 0xbf
      (λ b c d. rw (over 0xf0 0xf0 a (omega (arith, n)), ranged 0xf1 0xf3 a (omega (arith, n)) (omega arith), under 0xf4 0xf4 a k, or-false))

  pub behind_f4 : a ≡ 0xf4 → well_formed (a ∷ s) ≡ continued 3 0x80 0x8f s
  unfolding utf8_4
  behind_f4 e = four_goes 0x80 0x8f (λ b c d. rw e)

-- Every row.
pub ruleset rows = (behind_stray, behind-two, behind_e0, behind_three, behind_ed, behind_f0, behind_four, behind_f4, behind_none)
