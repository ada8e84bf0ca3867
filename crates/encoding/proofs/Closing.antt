-- How a base64url text ends: by its length and its last character.
-- Assumes nothing.
use Prim.Native.Nat.{ℕ, zero, suc, ◌+◌, ◌-◌, ◌*◌, ◌/◌, ◌%◌, ◌≤◌, ◌<◌}
use mathlib.Core.Path.{◌≡◌, refl, ◌∙◌}
use mathlib.Core.List.{List, [], ◌∷◌, ◌++◌, map}
use mathlib.Core.Bool.{true}
use native.Mathlib.Omega.{arith}
use native.Mathlib.Decide.{ℕ_discrete}
use lib.Dec.{ltb}
use lib.ListN.{length, get_or, replicate}
use borrow.Author.Tests.{eq-eqb, ne_eqb, eqb-true}
use Rattle.octets.proofs.Equality.{and_true}
use Rattle.encoding.specs.Base64url.{canonical, alphabet, place, value, known}
use Rattle.encoding.specs.Broken.{fewest_bytes}
use Rattle.encoding.proofs.Padding.{four_ways}

-- The last of the characters u, and 0 where there are none.
abbrev pub last_of : List ℕ → ℕ
last_of u = get_or (0 ∷ u) (length u) 0

-- n characters, of which the last stands for v, are whole, with pad bits zero.
pub record Closes (n v : ℕ) : Type 0 where
  pub one : n % 4 ≡ 1 → ⊥
  pub two : n % 4 ≡ 2 → v % 16 ≡ 0
  pub three : n % 4 ≡ 3 → v % 4 ≡ 0

pub closes : (x : ℕ) (w : List ℕ) → canonical (map value w) ≡ true → Closes (length w) (value (get_or (x ∷ w) (length w) 0))
unfolding canonical
closes x [] h = record { one = λ e. omega arith; two = λ e. absurd (omega arith); three = λ e. absurd (omega arith) }
closes x (a ∷ []) h = absurd (let z : ◌≡◌ {A = ℕ} 0 1 = cc in omega arith)
closes x (a ∷ b ∷ []) h = record { one = λ e. omega arith; two = λ e. eqb-true (value b % 16) 0 h; three = λ e. absurd (omega arith) }
closes x (a ∷ b ∷ c ∷ []) h = record { one = λ e. omega arith; two = λ e. absurd (omega arith); three = λ e. eqb-true (value c % 4) 0 h }
closes x (a ∷ b ∷ c ∷ d ∷ w) h =
    let k = closes d w h in
    record { one = λ e. k.one (omega arith); two = λ e. k.two (omega arith); three = λ e. k.three (omega arith) }

pub closed : (x : ℕ) (w : List ℕ) → Closes (length w) (value (get_or (x ∷ w) (length w) 0)) → canonical (map value w) ≡ true
unfolding canonical
closed x [] k = refl
closed x (a ∷ []) k = absurd (k.one refl)
closed x (a ∷ b ∷ []) k = eq-eqb (value b % 16) 0 (k.two refl)
closed x (a ∷ b ∷ c ∷ []) k = eq-eqb (value c % 4) 0 (k.three refl)
closed x (a ∷ b ∷ c ∷ d ∷ w) k =
    closed d w (record { one = λ e. k.one (omega arith); two = λ e. k.two (omega arith); three = λ e. k.three (omega arith) })

-- ---- the fewest_bytes bytes

module _ (n v : ℕ) where
  pub fewest_none : n % 4 ≡ 0 → fewest_bytes n v ≡ n / 4 * 3
  unfolding fewest_bytes
  fewest_none e = rw e (omega arith)

  pub fewest_one : n % 4 ≡ 1 → fewest_bytes n v ≡ n / 4 * 3 + 1
  unfolding fewest_bytes
  fewest_one e = rw e

  pub fewest_two : n % 4 ≡ 2 → v % 16 ≡ 0 → fewest_bytes n v ≡ n / 4 * 3 + 1
  unfolding fewest_bytes
  fewest_two e f = rw (e, f)

  pub fewest_two_more : n % 4 ≡ 2 → (v % 16 ≡ 0 → ⊥) → fewest_bytes n v ≡ n / 4 * 3 + 2
  unfolding fewest_bytes
  fewest_two_more e f = rw (e, ne_eqb (v % 16) 0 f)

  pub fewest_three : n % 4 ≡ 3 → v % 4 ≡ 0 → fewest_bytes n v ≡ n / 4 * 3 + 2
  unfolding fewest_bytes
  fewest_three e f = rw (e, f)

  pub fewest_three_more : n % 4 ≡ 3 → (v % 4 ≡ 0 → ⊥) → fewest_bytes n v ≡ n / 4 * 3 + 3
  unfolding fewest_bytes
  fewest_three_more e f = rw (e, ne_eqb (v % 4) 0 f)

-- Rounded up to a multiple of four.
pub round_none : (n : ℕ) → n % 4 ≡ 0 → (n + 3) / 4 * 4 ≡ n
round_none n e = let f : (n + 3) / 4 ≡ n / 4 = omega arith in omega arith

pub round_more : (n m : ℕ) → n % 4 ≡ m → 0 < m → (n + 3) / 4 * 4 ≡ n - m + 4
round_more n m e h = let f : (n + 3) / 4 ≡ n / 4 + 1 = omega arith in omega arith

pub either : (a b : ℕ) {P : Type 0} → (a ≡ b → P) → ((a ≡ b → ⊥) → P) → P
either a b {P} f g = go (ℕ_discrete a b)
  where
    go : Dec (a ≡ b) → P
    go (yes e) = f e
    go (no e) = g e

-- No more bytes than characters.
pub fewest_most : (n v : ℕ) → fewest_bytes n v ≤ n
fewest_most n v =
    four_ways n
    (λ r. let g = fewest_none n v r in omega arith)
    (λ r. let g = fewest_one n v r in omega arith)
    (λ r. either (v % 16) 0 (λ z. let g = fewest_two n v r z in omega arith) (λ z. let g = fewest_two_more n v r z in omega arith))
    (λ r. either (v % 4) 0 (λ z. let g = fewest_three n v r z in omega arith) (λ z. let g = fewest_three_more n v r z in omega arith))

-- Nor more than whole groups have.
pub fewest_groups : (n v g : ℕ) → n ≤ 4 * g → fewest_bytes n v ≤ 3 * g
fewest_groups n v g h =
    four_ways n
    (λ r. let e = fewest_none n v r in omega arith)
    (λ r. let e = fewest_one n v r in omega arith)
    (λ r. either (v % 16) 0 (λ z. let e = fewest_two n v r z in omega arith) (λ z. let e = fewest_two_more n v r z in omega arith))
    (λ r. either (v % 4) 0 (λ z. let e = fewest_three n v r z in omega arith) (λ z. let e = fewest_three_more n v r z in omega arith))

-- A text that is whole stands for as many bytes as its characters fill.
pub fewest_closed : (n v : ℕ) → Closes n v → fewest_bytes n v ≡ n * 3 / 4
fewest_closed n v k =
    four_ways n
    (λ e. fewest_none n v e ∙ omega arith)
    (λ e. absurd (k.one e))
    (λ e. fewest_two n v e (k.two e) ∙ omega arith)
    (λ e. fewest_three n v e (k.three e) ∙ omega arith)

-- A whole text of m characters, of which the last stands for w, that begins with n characters, of which the last stands for v.
pub fewest_within : (n v m w : ℕ) → n ≤ m → (n ≡ m → v ≡ w) → Closes m w → fewest_bytes n v ≤ m * 3 / 4
fewest_within n v m w h s k =
    either n m
    (λ e. let f : Closes n v = rw (e, s e) k in let g = fewest_closed n v f in omega arith)
    (λ e.
    four_ways n
    (λ r. let g = fewest_none n v r in omega arith)
    (λ r. let g = fewest_one n v r in omega arith)
    (λ r. either (v % 16) 0 (λ z. let g = fewest_two n v r z in omega arith) (λ z. let g = fewest_two_more n v r z in omega arith))
    (λ r. either (v % 4) 0 (λ z. let g = fewest_three n v r z in omega arith) (λ z. let g = fewest_three_more n v r z in omega arith)))

-- The characters of so many bytes, and more, hold those n.
pub room_for : (n v b : ℕ) → fewest_bytes n v ≤ b → n ≤ (b * 4 + 2) / 3
room_for n v b h =
    four_ways n
    (λ r. let g = fewest_none n v r in omega arith)
    (λ r. let g = fewest_one n v r in omega arith)
    (λ r. either (v % 16) 0 (λ z. let g = fewest_two n v r z in omega arith) (λ z. let g = fewest_two_more n v r z in omega arith))
    (λ r. either (v % 4) 0 (λ z. let g = fewest_three n v r z in omega arith) (λ z. let g = fewest_three_more n v r z in omega arith))

-- Where they are all of them, they are whole.
pub no_one : (b n : ℕ) → n ≡ (b * 4 + 2) / 3 → n % 4 ≡ 1 → ⊥
no_one b n e r =
    either (b % 3) 0
    (λ z. let f : n ≡ 4 * (b / 3) = omega arith in omega arith)
    (λ y. either (b % 3) 1 (λ z. let f : n ≡ 4 * (b / 3) + 2 = omega arith in omega arith) (λ x. let f : n ≡ 4 * (b / 3) + 3 = omega arith in omega arith))

pub fills_it : (n v b : ℕ) → fewest_bytes n v ≤ b → n ≡ (b * 4 + 2) / 3 → Closes n v
fills_it n v b h e =
    record {
      one = λ r. no_one b n e r;
      two = λ r. either (v % 16) 0 (λ z. z) (λ z. absurd (let g = fewest_two_more n v r z in omega arith));
      three = λ r. either (v % 4) 0 (λ z. z) (λ z. absurd (let g = fewest_three_more n v r z in omega arith));
    }

-- ---- known characters

pub known-append : (u v : List ℕ) → known u ≡ true → known v ≡ true → known (u ++ v) ≡ true
unfolding known
known-append [] v h k = k
known-append (c ∷ u) v h k =
    let f = and_true (ltb (value c) 64) (known u) h in
    rw f.0 (known-append u v f.1 k)

-- 'A', which stands for 0
abbrev pub letter_a : ℕ
letter_a = 0x41

pub known_as : (k : ℕ) → known (replicate k letter_a) ≡ true
unfolding known value place alphabet
known_as zero = refl
known_as (suc k) = known_as k

-- ---- last characters

pub last_snoc : (x : ℕ) (u : List ℕ) (c : ℕ) → get_or (x ∷ (u ++ c ∷ [])) (length (u ++ c ∷ [])) 0 ≡ c
last_snoc x [] c = refl
last_snoc x (y ∷ u) c = last_snoc y u c

pub last_as : (x : ℕ) (u : List ℕ) (k : ℕ) → get_or (x ∷ (u ++ replicate (suc k) letter_a)) (length (u ++ replicate (suc k) letter_a)) 0 ≡ letter_a
last_as x [] zero = refl
last_as x [] (suc k) = last_as letter_a [] k
last_as x (y ∷ u) k = last_as y u k
