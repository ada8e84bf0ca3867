-- A padded text, place by place, and where '=' fits.
-- Assumes nothing.
use Prim.Native.Nat.{ℕ, ◌+◌, ◌-◌, ◌*◌, ◌/◌, ◌%◌, ◌≤◌, ◌<◌}
use mathlib.Core.Path.{◌≡◌, refl, sym, ap, ◌∙◌}
use mathlib.Core.List.{List, [], ◌∷◌, ◌++◌, append-nil, append_assoc}
use mathlib.Core.Bool.{Bool, true, false, ◌&&◌, ◌||◌}
use mathlib.Core.Logic.{◌⊎◌, inl, inr, ⊎_elim}
use native.Mathlib.Omega.{arith}
use lib.Dec.{eqb, leb}
use lib.ListN.{length, get_or, replicate, length-append, length-replicate, get_or-replicate, get_or-append}
use lib.Seq.{get_or-append-add}
use borrow.Author.Tests.{eqb-true, le-leb, leb-true}
use Rattle.octets.proofs.Equality.{and_true, true_false}
use Rattle.encoding.specs.Base64url.{value, pad, pad_character}
use Rattle.encoding.specs.Broken.{pad_fits}

pub or_true : (a b : Bool) → (a || b) ≡ true → (a ≡ true) ⊎ (b ≡ true)
or_true true b h = inl refl
or_true false b h = inr h

pub or_left : (a b : Bool) → a ≡ true → (a || b) ≡ true
or_left true b h = refl
or_left false b h = absurd (true_false (sym h))

pub or_right : (a b : Bool) → b ≡ true → (a || b) ≡ true
or_right true b h = refl
or_right false b h = h

-- ---- a padded text, place by place

pub pad-letter : (p : Bool) (w : List ℕ) (i : ℕ) → i < length w → get_or (pad p w) i 0 ≡ get_or w i 0
unfolding pad
pad-letter true w i h = get_or-append w _ 0 i h
pad-letter false w i h = refl

pub pad-behind : (p : Bool) (w : List ℕ) (i : ℕ) → length w ≤ i → i < length (pad p w) → (p ≡ true) × (get_or (pad p w) i 0 ≡ pad_character) × (i < (length w + 3) / 4 * 4)
unfolding pad
pad-behind true w i h k =
    let e : length w + (i - length w) ≡ i = omega arith in
    let l : length (w ++ replicate ((4 - length w % 4) % 4) pad_character) ≡ length w + (4 - length w % 4) % 4 =
    length-append w (replicate ((4 - length w % 4) % 4) pad_character) ∙ ap (λ (x : ℕ). length w + x) (length-replicate ((4 - length w % 4) % 4) pad_character) in
    let m : i - length w < (4 - length w % 4) % 4 = omega arith in
    let g : get_or (w ++ replicate ((4 - length w % 4) % 4) pad_character) (length w + (i - length w)) 0 ≡ pad_character =
    get_or-append-add w (replicate ((4 - length w % 4) % 4) pad_character) (i - length w) 0 ∙ get_or-replicate ((4 - length w % 4) % 4) (i - length w) pad_character 0 m in
    (refl, ap (λ (x : ℕ). get_or (w ++ replicate ((4 - length w % 4) % 4) pad_character) x 0) (sym e) ∙ g, omega arith)
pad-behind false w i h k = absurd (omega arith)

pub pad_more : (p : Bool) (w : List ℕ) → (z : List ℕ) × (pad p w ≡ w ++ z)
unfolding pad
pad_more true w = (replicate ((4 - length w % 4) % 4) pad_character, refl)
pad_more false w = ([], sym (append-nil w))

-- ---- where '=' fits

module _ (least i b : ℕ) where
  pub third_fits : i % 4 ≡ 2 → value b % 16 ≡ 0 → least ≤ i / 4 * 3 + 1 → pad_fits least i b ≡ true
  unfolding pad_fits
  third_fits e f g = rw (e, f, le-leb least (i / 4 * 3 + 1) g)

  pub fourth_fits : i % 4 ≡ 3 → value b % 4 ≡ 0 → least ≤ i / 4 * 3 + 2 → pad_fits least i b ≡ true
  unfolding pad_fits
  fourth_fits e f g = rw (e, f, le-leb least (i / 4 * 3 + 2) g) (or_right (eqb b pad_character) true refl)

  pub after-pad-fits : i % 4 ≡ 3 → b ≡ pad_character → pad_fits least i b ≡ true
  unfolding pad_fits
  after-pad-fits e f = rw (e, f)

  pub pad_cases : pad_fits least i b ≡ true
      → ((i % 4 ≡ 2) × (value b % 16 ≡ 0) × (least ≤ i / 4 * 3 + 1))
      ⊎ (((i % 4 ≡ 3) × (b ≡ pad_character)) ⊎ ((i % 4 ≡ 3) × (value b % 4 ≡ 0) × (least ≤ i / 4 * 3 + 2)))
  unfolding pad_fits
  pad_cases h = ⊎_elim third fourth (or_true (eqb (i % 4) 2 && eqb (value b % 16) 0 && leb least (i / 4 * 3 + 1)) _ h)
    where
      third : (eqb (i % 4) 2 && eqb (value b % 16) 0 && leb least (i / 4 * 3 + 1)) ≡ true
          → ((i % 4 ≡ 2) × (value b % 16 ≡ 0) × (least ≤ i / 4 * 3 + 1))
          ⊎ (((i % 4 ≡ 3) × (b ≡ pad_character)) ⊎ ((i % 4 ≡ 3) × (value b % 4 ≡ 0) × (least ≤ i / 4 * 3 + 2)))
      third k =
          let x = and_true (eqb (i % 4) 2 && eqb (value b % 16) 0) (leb least (i / 4 * 3 + 1)) k in
          let y = and_true (eqb (i % 4) 2) (eqb (value b % 16) 0) x.0 in
          inl (eqb-true (i % 4) 2 y.0, eqb-true (value b % 16) 0 y.1, leb-true least (i / 4 * 3 + 1) x.1)

      fourth : (eqb (i % 4) 3 && (eqb b pad_character || (eqb (value b % 4) 0 && leb least (i / 4 * 3 + 2)))) ≡ true
          → ((i % 4 ≡ 2) × (value b % 16 ≡ 0) × (least ≤ i / 4 * 3 + 1))
          ⊎ (((i % 4 ≡ 3) × (b ≡ pad_character)) ⊎ ((i % 4 ≡ 3) × (value b % 4 ≡ 0) × (least ≤ i / 4 * 3 + 2)))
      fourth k =
          let x = and_true (eqb (i % 4) 3) (eqb b pad_character || (eqb (value b % 4) 0 && leb least (i / 4 * 3 + 2))) k in
          let e = eqb-true (i % 4) 3 x.0 in
          ⊎_elim
          (λ y. inr (inl (e, eqb-true b pad_character y)))
          (λ y. let z = and_true (eqb (value b % 4) 0) (leb least (i / 4 * 3 + 2)) y in inr (inr (e, eqb-true (value b % 4) 0 z.0, leb-true least (i / 4 * 3 + 2) z.1)))
          (or_true (eqb b pad_character) (eqb (value b % 4) 0 && leb least (i / 4 * 3 + 2)) x.1)

-- Characters of the alphabet, filled up.
pub pad-two : (w : List ℕ) → length w % 4 ≡ 2 → pad true w ≡ (w ++ pad_character ∷ []) ++ pad_character ∷ []
unfolding pad
pad-two w e = rw (e, append_assoc w (pad_character ∷ []) (pad_character ∷ []))

pub pad_three : (w : List ℕ) → length w % 4 ≡ 3 → pad true w ≡ w ++ pad_character ∷ []
unfolding pad
pad_three w e = rw e
