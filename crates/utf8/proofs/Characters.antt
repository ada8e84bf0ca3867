-- Well-formed UTF-8, character by character.
-- Assumes nothing.
use Prim.Native.Nat.{ℕ}
use mathlib.Core.Path.{◌≡◌, refl}
use mathlib.Core.Bool.{true, ◌&&◌, or-true}
use mathlib.Core.List.{List, [], ◌∷◌}
use mathlib.Core.Logic.{⊎_elim}
use Rattle.octets.proofs.Equality.{and_true}
use Rattle.utf8.specs.Utf8.{utf8_1, utf8_2, utf8_3, utf8_4, well_formed}
use Rattle.utf8.proofs.Alternatives.{which2, which3, which4}

-- The characters of a well-formed text.
pub data Chars : List ℕ → Type 0 where
  none : Chars []
  one : {a : ℕ} {s : List ℕ} → utf8_1 a ≡ true → Chars s → Chars (a ∷ s)
  two : {a b : ℕ} {s : List ℕ} → utf8_2 a b ≡ true → Chars s → Chars (a ∷ b ∷ s)
  three : {a b c : ℕ} {s : List ℕ} → utf8_3 a b c ≡ true → Chars s → Chars (a ∷ b ∷ c ∷ s)
  four : {a b c d : ℕ} {s : List ℕ} → utf8_4 a b c d ≡ true → Chars s → Chars (a ∷ b ∷ c ∷ d ∷ s)

pub chars : (s : List ℕ) → well_formed s ≡ true → Chars s
unfolding well_formed
chars [] h = none
chars (a ∷ []) h = one h none
chars (a ∷ b ∷ []) h =
    ⊎_elim (λ (p : (utf8_1 a && well_formed (b ∷ [])) ≡ true). let q = and_true (utf8_1 a) (well_formed (b ∷ [])) p in one q.0 (chars (b ∷ []) q.1))
    (λ (p : utf8_2 a b ≡ true). two p none)
    (which2 (utf8_1 a && well_formed (b ∷ [])) (utf8_2 a b) h)
chars (a ∷ b ∷ c ∷ []) h =
    ⊎_elim
    (λ (p : (utf8_1 a && well_formed (b ∷ c ∷ [])) ≡ true). let q = and_true (utf8_1 a) (well_formed (b ∷ c ∷ [])) p in one q.0 (chars (b ∷ c ∷ []) q.1))
    (⊎_elim
    (λ (p : (utf8_2 a b && well_formed (c ∷ [])) ≡ true). let q = and_true (utf8_2 a b) (well_formed (c ∷ [])) p in two q.0 (chars (c ∷ []) q.1))
    (λ (p : utf8_3 a b c ≡ true). three p none))
    (which3 (utf8_1 a && well_formed (b ∷ c ∷ [])) (utf8_2 a b && well_formed (c ∷ [])) (utf8_3 a b c) h)
chars (a ∷ b ∷ c ∷ d ∷ s) h =
    ⊎_elim
    (λ (p : (utf8_1 a && well_formed (b ∷ c ∷ d ∷ s)) ≡ true). let q = and_true (utf8_1 a) (well_formed (b ∷ c ∷ d ∷ s)) p in one q.0 (chars (b ∷ c ∷ d ∷ s) q.1))
    (⊎_elim
    (λ (p : (utf8_2 a b && well_formed (c ∷ d ∷ s)) ≡ true). let q = and_true (utf8_2 a b) (well_formed (c ∷ d ∷ s)) p in two q.0 (chars (c ∷ d ∷ s) q.1))
    (⊎_elim
    (λ (p : (utf8_3 a b c && well_formed (d ∷ s)) ≡ true). let q = and_true (utf8_3 a b c) (well_formed (d ∷ s)) p in three q.0 (chars (d ∷ s) q.1))
    (λ (p : (utf8_4 a b c d && well_formed s) ≡ true). let q = and_true (utf8_4 a b c d) (well_formed s) p in four q.0 (chars s q.1))))
    (which4 (utf8_1 a && well_formed (b ∷ c ∷ d ∷ s)) (utf8_2 a b && well_formed (c ∷ d ∷ s)) (utf8_3 a b c && well_formed (d ∷ s)) (utf8_4 a b c d && well_formed s) h)

-- A character more in front.
more1 : (a : ℕ) (s : List ℕ) → utf8_1 a ≡ true → well_formed s ≡ true → well_formed (a ∷ s) ≡ true
unfolding well_formed
more1 a [] p h = p
more1 a (b ∷ []) p h = rw (p, h)
more1 a (b ∷ c ∷ []) p h = rw (p, h)
more1 a (b ∷ c ∷ d ∷ s) p h = rw (p, h)

more2 : (a b : ℕ) (s : List ℕ) → utf8_2 a b ≡ true → well_formed s ≡ true → well_formed (a ∷ b ∷ s) ≡ true
unfolding well_formed
more2 a b [] p h = rw (p, or-true)
more2 a b (c ∷ []) p h = rw (p, h, or-true)
more2 a b (c ∷ d ∷ s) p h = rw (p, h, or-true)

more3 : (a b c : ℕ) (s : List ℕ) → utf8_3 a b c ≡ true → well_formed s ≡ true → well_formed (a ∷ b ∷ c ∷ s) ≡ true
unfolding well_formed
more3 a b c [] p h = rw (p, or-true)
more3 a b c (d ∷ s) p h = rw (p, h, or-true)

more4 : (a b c d : ℕ) (s : List ℕ) → utf8_4 a b c d ≡ true → well_formed s ≡ true → well_formed (a ∷ b ∷ c ∷ d ∷ s) ≡ true
unfolding well_formed
more4 a b c d s p h = rw (p, h, or-true)

pub chars_formed : {s : List ℕ} → Chars s → well_formed s ≡ true
unfolding well_formed
chars_formed none = refl
chars_formed (one {a} {s} p k) = more1 a s p (chars_formed k)
chars_formed (two {a} {b} {s} p k) = more2 a b s p (chars_formed k)
chars_formed (three {a} {b} {c} {s} p k) = more3 a b c s p (chars_formed k)
chars_formed (four {a} {b} {c} {d} {s} p k) = more4 a b c d s p (chars_formed k)
