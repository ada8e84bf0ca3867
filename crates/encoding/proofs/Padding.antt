-- Padding, and the text without it.
-- Assumes nothing.
use Prim.Native.Nat.{ℕ, zero, suc, suc-le-suc, zero-le, ◌+◌, ◌-◌, ◌*◌, ◌/◌, ◌%◌, ◌<◌}
use mathlib.Core.Path.{◌≡◌, refl, sym, ap, ◌∙◌}
use mathlib.Core.List.{List, [], ◌∷◌, ◌++◌, append-nil, append_assoc}
use mathlib.Core.Bool.{Bool, true, false, cond}
use native.Mathlib.Omega.{arith}
use lib.Dec.{eqb}
use lib.ListN.{length, get_or, take, replicate, length-append, length-replicate, get_or-append}
use lib.Seq.{take-length, take-suc, take_at, get_or_at, get_or-append-add, length-take-le}
use borrow.Author.Tests.{eq-eqb, ne_eqb, eqb-true}
use Rattle.encoding.specs.Base64url.{known, pad_character, pad, pad_length, body, whole}
use Rattle.encoding.proofs.Characters.{no_padding}

-- ---- lengths

pub length-pad : (t : List ℕ) → length (pad true t) ≡ (length t + 3) / 4 * 4
unfolding pad
length-pad t = simp (length-append, length-replicate) (omega arith)

pub whole-pad : (p : Bool) (t : List ℕ) → whole p (pad p t) ≡ true
unfolding whole
whole-pad true t = eq-eqb (length (pad true t) % 4) 0 (omega (arith, length-pad t))
whole-pad false t = refl

pub bare_body : (t : List ℕ) → body false t ≡ t
unfolding body pad_length
bare_body t = let e : length t - 0 ≡ length t = omega arith in rw e (take-length t)

-- ---- whole groups need no padding

pub pad-append : (p : Bool) (u v : List ℕ) (n : ℕ) → length u ≡ 4 * n → pad p (u ++ v) ≡ u ++ pad p v
unfolding pad
pad-append true u v n h =
    let e : length (u ++ v) % 4 ≡ length v % 4 = omega (arith, length-append u v) in
    rw e (append_assoc u v (replicate ((4 - length v % 4) % 4) pad_character))
pad-append false u v n h = refl

-- ---- the body of a text that was padded

module _ (t : List ℕ) (h : known t ≡ true) where
  none_added : pad_length true t ≡ 0
  unfolding pad_length
  none_added = rw (ne_eqb (get_or t (length t - 1) 0) pad_character (no_padding t h (length t - 1)))

  one_added : 0 < length t → pad_length true (t ++ pad_character ∷ []) ≡ 1
  unfolding pad_length
  one_added k =
      let l : length (t ++ pad_character ∷ []) ≡ length t + 1 = length-append t (pad_character ∷ []) in
      let a : length t + 1 - 1 ≡ length t = omega arith in
      let b : length t + 1 - 2 ≡ length t - 1 = omega arith in
      let d : length t - 1 < length t = omega arith in
      rw (l, a, b, get_or_at t pad_character [] 0 (length t) refl, get_or-append t (pad_character ∷ []) 0 (length t - 1) d, ne_eqb (get_or t (length t - 1) 0) pad_character (no_padding t h (length t - 1)))

  two-added : pad_length true (t ++ pad_character ∷ pad_character ∷ []) ≡ 2
  unfolding pad_length
  two-added =
      let l : length (t ++ pad_character ∷ pad_character ∷ []) ≡ length t + 2 = length-append t (pad_character ∷ pad_character ∷ []) in
      let a : length t + 2 - 1 ≡ length t + 1 = omega arith in
      let b : length t + 2 - 2 ≡ length t = omega arith in
      rw (l, a, b, get_or-append-add t (pad_character ∷ pad_character ∷ []) 1 0, get_or_at t pad_character (pad_character ∷ []) 0 (length t) refl)

-- The body of a text t with q after it, of which q is padding.
cut : (t q : List ℕ) → pad_length true (t ++ q) ≡ length q → body true (t ++ q) ≡ t
unfolding body
cut t q e =
    let l : length (t ++ q) - length q ≡ length t = omega (arith, length-append t q) in
    rw (e, l) (take_at t q (length t) refl)

-- Which remainder a length leaves.
pub four_ways : (n : ℕ) {P : Type 0} → (n % 4 ≡ 0 → P) → (n % 4 ≡ 1 → P) → (n % 4 ≡ 2 → P) → (n % 4 ≡ 3 → P) → P
four_ways n {P} a b c d = go (n % 4) refl (omega arith)
  where
    go : (r : ℕ) → n % 4 ≡ r → r < 4 → P
    go zero e h = a e
    go (suc zero) e h = b e
    go (suc (suc zero)) e h = c e
    go (suc (suc (suc zero))) e h = d e
    go (suc (suc (suc (suc r)))) e h = absurd (omega arith)

pub body-pad : (p : Bool) (t : List ℕ) → known t ≡ true → (length t % 4 ≡ 1 → ⊥) → body p (pad p t) ≡ t
unfolding pad
body-pad true t h ne =
    four_ways (length t)
    (λ r. rw (r, append-nil t) (rw append-nil at (cut t [] (rw append-nil (none_added t h)))))
    (λ r. absurd (ne r))
    (λ r. rw r (cut t (pad_character ∷ pad_character ∷ []) (two-added t h)))
    (λ r. rw r (cut t (pad_character ∷ []) (one_added t h (omega arith))))
body-pad false t h ne = bare_body t

-- ---- the body of a whole text, padded again

-- A list, in front of its last element and of its last two.
last_one : (t : List ℕ) → 0 < length t → take (length t - 1) t ++ get_or t (length t - 1) 0 ∷ [] ≡ t
last_one t h =
    let e : suc (length t - 1) ≡ length t = omega arith in
    sym (take-suc t (length t - 1) 0 (omega arith)) ∙ rw e (take-length t)

last_two : (t : List ℕ) → 1 < length t → take (length t - 2) t ++ get_or t (length t - 2) 0 ∷ get_or t (length t - 1) 0 ∷ [] ≡ t
last_two t h =
    let e : suc (length t - 2) ≡ length t - 1 = omega arith in
    let f : take (length t - 1) t ≡ take (length t - 2) t ++ (get_or t (length t - 2) 0 ∷ []) =
    rw (← e) (take-suc t (length t - 2) 0 (omega arith)) in
    sym (append_assoc (take (length t - 2) t) (get_or t (length t - 2) 0 ∷ []) (get_or t (length t - 1) 0 ∷ []))
    ∙ ap (λ (l : List ℕ). l ++ (get_or t (length t - 1) 0 ∷ [])) (sym f) ∙ last_one t (omega arith)

some_there : (t : List ℕ) (i : ℕ) → get_or t i 0 ≡ pad_character → 0 < length t
some_there [] i e = omega arith
some_there (c ∷ t) i e = suc-le-suc zero-le

pub pad-body : (p : Bool) (t : List ℕ) → whole p t ≡ true → pad p (body p t) ≡ t
unfolding pad body pad_length whole
pad-body true t w = go (eqb (get_or t (length t - 1) 0) pad_character) (eqb (get_or t (length t - 2) 0) pad_character) refl refl
  where
    m : length t % 4 ≡ 0
    m = eqb-true (length t % 4) 0 w

    go : (p q : Bool) → eqb (get_or t (length t - 1) 0) pad_character ≡ p → eqb (get_or t (length t - 2) 0) pad_character ≡ q
        → pad true (take (length t - cond p (cond q 2 1) 0) t) ≡ t
    go false q e f = let z : length t - 0 ≡ length t = omega arith in rw (z, take-length t, m) (append-nil t)
    go true true e f =
        let a : get_or t (length t - 1) 0 ≡ pad_character = eqb-true (get_or t (length t - 1) 0) pad_character e in
        let b : get_or t (length t - 2) 0 ≡ pad_character = eqb-true (get_or t (length t - 2) 0) pad_character f in
        let n : 0 < length t = some_there t (length t - 1) a in
        let l : length (take (length t - 2) t) ≡ length t - 2 = length-take-le (length t - 2) t (omega arith) in
        let r : (length t - 2) % 4 ≡ 2 = omega (arith, m) in
        rw (l, r) (rw (a, b) at (last_two t (omega (arith, m))))
    go true false e f =
        let a : get_or t (length t - 1) 0 ≡ pad_character = eqb-true (get_or t (length t - 1) 0) pad_character e in
        let n : 0 < length t = some_there t (length t - 1) a in
        let l : length (take (length t - 1) t) ≡ length t - 1 = length-take-le (length t - 1) t (omega arith) in
        let r : (length t - 1) % 4 ≡ 3 = omega (arith, m) in
        rw (l, r) (rw a at (last_one t n))
pad-body false t w = bare_body t
