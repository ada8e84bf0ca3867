-- Characters and what they stand for.
-- Assumes nothing.
use Prim.Native.Nat.{ℕ, zero, suc, ◌+◌, ◌≤◌, ◌<◌}
use mathlib.Core.Path.{◌≡◌, refl, sym, ap, ap₂, ◌∙◌}
use mathlib.Core.List.{List, [], ◌∷◌, map}
use mathlib.Core.Bool.{Bool, true, false, cond}
use native.Mathlib.Omega.{arith}
use native.Mathlib.Nat.{add-zero, zero-lt-suc, le_of_suc-le-suc, not-suc-le-zero}
use lib.Dec.{eqb, ltb, eqb→eq}
use lib.ListN.{length, get_or, drop}
use borrow.Author.Tests.{lt-ltb, eqb-true, ltb-true}
use Rattle.octets.specs.Bytes.{Below}
use Rattle.octets.proofs.Bytes.{below_nil, below_cons, below_drop}
use Rattle.octets.proofs.Equality.{and_true}
use Rattle.octets.proofs.Tables.{all_at}
use Rattle.encoding.specs.Base64url.{alphabet, letter, place, value, known, pad_character}
use Rattle.encoding.specs.ValueTable.{values_from, value_table}

-- ---- one character

place_at : (l : List ℕ) (c : ℕ) → place l c < length l → get_or l (place l c) 0 ≡ c
unfolding place
place_at [] c h = absurd (not-suc-le-zero h)
place_at (x ∷ l) c h = go (eqb x c) refl (place_at l c) h
  where
    go : (b : Bool) → eqb x c ≡ b → (place l c < length l → get_or l (place l c) 0 ≡ c)
        → cond b 0 (suc (place l c)) < suc (length l) → get_or (x ∷ l) (cond b 0 (suc (place l c))) 0 ≡ c
    go true e k h = eqb-true x c e
    go false e k h = k (le_of_suc-le-suc h)

letter-value : (c : ℕ) → value c < 64 → letter (value c) ≡ c
unfolding value letter alphabet
letter-value c h = place_at alphabet c h

value-letter : (v : ℕ) → v < 64 → value (letter v) ≡ v
unfolding value letter alphabet place
value-letter v h = eqb→eq (value (letter v)) v (all_at (λ k. eqb (value (letter k)) k) 64 tt v h)

pub value-padding : value pad_character ≡ 64
unfolding value alphabet place
value-padding = refl

-- ---- the table of values

from_at : (n c k : ℕ) → k < n → get_or (values_from n c) k 0 ≡ value (c + k)
unfolding values_from
from_at zero c k h = absurd (not-suc-le-zero h)
from_at (suc n) c zero h = ap value (sym (add-zero c))
from_at (suc n) c (suc k) h = let e : suc c + k ≡ c + suc k = omega arith in from_at n (suc c) k (le_of_suc-le-suc h) ∙ ap value e

pub table_at : (c : ℕ) → c < 256 → get_or value_table c 0 ≡ value c
unfolding value_table
table_at c h = let e : 0 + c ≡ c = omega arith in from_at 256 0 c h ∙ ap value e

-- ---- texts

pub values-letters : (v : List ℕ) → Below 64 v → map value (map letter v) ≡ v
values-letters [] h = refl
values-letters (x ∷ v) h = ap₂ (λ (y : ℕ) (l : List ℕ). y ∷ l) (value-letter x (h.at 0)) (values-letters v (below_drop 1 h))

pub known-letters : (v : List ℕ) → Below 64 v → known (map letter v) ≡ true
unfolding known
known-letters [] h = refl
known-letters (x ∷ v) h = rw (value-letter x (h.at 0), lt-ltb x 64 (h.at 0)) (known-letters v (below_drop 1 h))

pub letters-values : (t : List ℕ) → known t ≡ true → map letter (map value t) ≡ t
unfolding known
letters-values [] h = refl
letters-values (c ∷ t) h =
    let k = and_true (ltb (value c) 64) (known t) h in
    ap₂ (λ (y : ℕ) (l : List ℕ). y ∷ l) (letter-value c (ltb-true (value c) 64 k.0)) (letters-values t k.1)

pub values_below : (t : List ℕ) → known t ≡ true → Below 64 (map value t)
unfolding known
values_below [] h = below_nil (zero-lt-suc 63)
values_below (c ∷ t) h =
    let k = and_true (ltb (value c) 64) (known t) h in
    below_cons (ltb-true (value c) 64 k.0) (values_below t k.1)

-- ---- which characters a known text has

pub known_at : (t : List ℕ) → known t ≡ true → (i : ℕ) → i < length t → value (get_or t i 0) < 64
unfolding known
known_at [] e i h = absurd (not-suc-le-zero h)
known_at (c ∷ t) e zero h = ltb-true (value c) 64 (and_true (ltb (value c) 64) (known t) e).0
known_at (c ∷ t) e (suc i) h = known_at t (and_true (ltb (value c) 64) (known t) e).1 i (le_of_suc-le-suc h)

pub known_all : (t : List ℕ) → ((i : ℕ) → i < length t → value (get_or t i 0) < 64) → known t ≡ true
unfolding known
known_all [] h = refl
known_all (c ∷ t) h = rw (lt-ltb (value c) 64 (h 0 (omega arith))) (known_all t (λ i j. h (suc i) (omega arith)))

pub known_not : (t : List ℕ) (i : ℕ) → i < length t → 64 ≤ value (get_or t i 0) → known t ≡ false
unfolding known
known_not t i h k = go (known t) refl
  where
    go : (b : Bool) → known t ≡ b → known t ≡ false
    go true e = absurd (let m = known_at t e i h in omega arith)
    go false e = e

pub known-drop : (n : ℕ) (t : List ℕ) → known t ≡ true → known (drop n t) ≡ true
unfolding known
known-drop zero t h = h
known-drop (suc n) [] h = h
known-drop (suc n) (c ∷ t) h = known-drop n t (and_true (ltb (value c) 64) (known t) h).1

-- No character of a known text is padding, nor the 0 past its end.
pub no_padding : (t : List ℕ) → known t ≡ true → (i : ℕ) → get_or t i 0 ≡ pad_character → ⊥
unfolding known
no_padding [] h i e = omega arith
no_padding (c ∷ t) h zero e =
    let k = ltb-true (value c) 64 (and_true (ltb (value c) 64) (known t) h).0 in
    omega (arith, ap value e ∙ value-padding)
no_padding (c ∷ t) h (suc i) e = no_padding t (and_true (ltb (value c) 64) (known t) h).1 i e
