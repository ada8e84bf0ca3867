-- Bytes as numbers of six bits: there and back, and lengths.
-- Assumes nothing.
use Prim.Native.Nat.{ℕ, zero, suc, ◌+◌, ◌-◌, ◌*◌, ◌/◌, ◌%◌, ◌≤◌, ◌<◌}
use mathlib.Core.Path.{◌≡◌, refl, ap}
use mathlib.Core.List.{List, [], ◌∷◌, ◌++◌}
use mathlib.Core.Bool.{true}
use native.Mathlib.Omega.{arith}
use native.Mathlib.Nat.{zero-lt-suc}
use lib.ListN.{length, drop}
use borrow.Author.Tests.{eq-eqb, eqb-true}
use Rattle.octets.specs.Bytes.{Below, Bytes}
use Rattle.octets.proofs.Bytes.{below_nil, below_cons, below_drop}
use Rattle.encoding.specs.Base64url.{sextets, octets, canonical}

three : {x y z x' y' z' : ℕ} {s s' : List ℕ} → x ≡ x' → y ≡ y' → z ≡ z' → s ≡ s' → x ∷ y ∷ z ∷ s ≡ x' ∷ y' ∷ z' ∷ s'
three a b c d = cc

four : {w x y z w' x' y' z' : ℕ} {s s' : List ℕ} → w ≡ w' → x ≡ x' → y ≡ y' → z ≡ z' → s ≡ s' → w ∷ x ∷ y ∷ z ∷ s ≡ w' ∷ x' ∷ y' ∷ z' ∷ s'
four a b c d e = cc

-- ---- bytes, and back

pub octets-sextets : (b : List ℕ) → Bytes b → octets (sextets b) ≡ b
unfolding octets sextets
octets-sextets [] h = refl
octets-sextets (a ∷ []) h = ap (λ (x : ℕ). x ∷ []) (omega arith)
octets-sextets (a ∷ b ∷ []) h =
    let k : b < 256 = h.at 1 in
    let e : a / 4 * 4 + (a % 4 * 16 + b / 16) / 16 ≡ a = omega arith in
    let f : (a % 4 * 16 + b / 16) % 16 * 16 + b % 16 * 4 / 4 ≡ b = omega arith in
    cc
octets-sextets (a ∷ b ∷ c ∷ s) h =
    let k : b < 256 = h.at 1 in
    let l : c < 256 = h.at 2 in
    three (omega arith) (omega arith) (omega arith) (octets-sextets s (below_drop 3 h))

pub canonical-sextets : (b : List ℕ) → canonical (sextets b) ≡ true
unfolding canonical sextets
canonical-sextets [] = refl
canonical-sextets (a ∷ []) = eq-eqb (a % 4 * 16 % 16) 0 (omega arith)
canonical-sextets (a ∷ b ∷ []) = eq-eqb (b % 16 * 4 % 4) 0 (omega arith)
canonical-sextets (a ∷ b ∷ c ∷ s) = canonical-sextets s

pub sextets_below : (b : List ℕ) → Bytes b → Below 64 (sextets b)
unfolding sextets
sextets_below [] h = below_nil (zero-lt-suc 63)
sextets_below (a ∷ []) h =
    let j : a < 256 = h.at 0 in
    below_cons (omega arith) (below_cons (omega arith) (below_nil (omega arith)))
sextets_below (a ∷ b ∷ []) h =
    let j : a < 256 = h.at 0 in
    let k : b < 256 = h.at 1 in
    below_cons (omega arith) (below_cons (omega arith) (below_cons (omega arith) (below_nil (omega arith))))
sextets_below (a ∷ b ∷ c ∷ s) h =
    let j : a < 256 = h.at 0 in
    let k : b < 256 = h.at 1 in
    let l : c < 256 = h.at 2 in
    below_cons (omega arith) (below_cons (omega arith) (below_cons (omega arith) (below_cons (omega arith) (sextets_below s (below_drop 3 h)))))

-- ---- numbers of six bits, and back

pub sextets-octets : (v : List ℕ) → Below 64 v → canonical v ≡ true → sextets (octets v) ≡ v
unfolding octets sextets canonical
sextets-octets [] h e = refl
sextets-octets (p ∷ []) h e = cc
sextets-octets (p ∷ q ∷ []) h e =
    let k : q < 64 = h.at 1 in
    let z : q % 16 ≡ 0 = eqb-true (q % 16) 0 e in
    let f : (p * 4 + q / 16) / 4 ≡ p = omega arith in
    let g : (p * 4 + q / 16) % 4 * 16 ≡ q = omega arith in
    cc
sextets-octets (p ∷ q ∷ r ∷ []) h e =
    let k : q < 64 = h.at 1 in
    let l : r < 64 = h.at 2 in
    let z : r % 4 ≡ 0 = eqb-true (r % 4) 0 e in
    three (omega arith) (omega arith) (omega arith) refl
sextets-octets (p ∷ q ∷ r ∷ s ∷ v) h e =
    let k : q < 64 = h.at 1 in
    let l : r < 64 = h.at 2 in
    let m : s < 64 = h.at 3 in
    four (omega arith) (omega arith) (omega arith) (omega arith) (sextets-octets v (below_drop 4 h) e)

pub octets_below : (v : List ℕ) → Below 64 v → Bytes (octets v)
unfolding octets
octets_below [] h = below_nil (zero-lt-suc 255)
octets_below (p ∷ []) h = below_nil (zero-lt-suc 255)
octets_below (p ∷ q ∷ []) h =
    let j : p < 64 = h.at 0 in
    let k : q < 64 = h.at 1 in
    below_cons (omega arith) (below_nil (omega arith))
octets_below (p ∷ q ∷ r ∷ []) h =
    let j : p < 64 = h.at 0 in
    let k : q < 64 = h.at 1 in
    let l : r < 64 = h.at 2 in
    below_cons (omega arith) (below_cons (omega arith) (below_nil (omega arith)))
octets_below (p ∷ q ∷ r ∷ s ∷ v) h =
    let j : p < 64 = h.at 0 in
    let k : q < 64 = h.at 1 in
    let l : r < 64 = h.at 2 in
    let m : s < 64 = h.at 3 in
    below_cons (omega arith) (below_cons (omega arith) (below_cons (omega arith) (octets_below v (below_drop 4 h))))

-- ---- lengths

pub length-sextets : (b : List ℕ) → length (sextets b) ≡ (length b * 4 + 2) / 3
unfolding sextets
length-sextets [] = refl
length-sextets (a ∷ []) = refl
length-sextets (a ∷ b ∷ []) = refl
length-sextets (a ∷ b ∷ c ∷ s) = omega (arith, length-sextets s)

pub not_one : (b : List ℕ) → length (sextets b) % 4 ≡ 1 → ⊥
unfolding sextets
not_one [] e = omega arith
not_one (a ∷ []) e = omega arith
not_one (a ∷ b ∷ []) e = omega arith
not_one (a ∷ b ∷ c ∷ s) e = not_one s (omega arith)

pub length-octets : (v : List ℕ) → length (octets v) ≡ length v * 3 / 4
unfolding octets
length-octets [] = refl
length-octets (p ∷ []) = refl
length-octets (p ∷ q ∷ []) = refl
length-octets (p ∷ q ∷ r ∷ []) = refl
length-octets (p ∷ q ∷ r ∷ s ∷ v) = omega (arith, length-octets v)

-- ---- whole groups

pub sextets-append : (x y : List ℕ) (n : ℕ) → length x ≡ 3 * n → sextets (x ++ y) ≡ sextets x ++ sextets y
unfolding sextets
sextets-append [] y n h = refl
sextets-append (a ∷ []) y n h = absurd (omega arith)
sextets-append (a ∷ b ∷ []) y n h = absurd (omega arith)
sextets-append (a ∷ b ∷ c ∷ x) y n h =
    ap (λ (l : List ℕ). a / 4 ∷ (a % 4 * 16 + b / 16) ∷ (b % 16 * 4 + c / 64) ∷ c % 64 ∷ l) (sextets-append x y (n - 1) (omega arith))

pub octets-append : (x y : List ℕ) (n : ℕ) → length x ≡ 4 * n → octets (x ++ y) ≡ octets x ++ octets y
unfolding octets
octets-append [] y n h = refl
octets-append (p ∷ []) y n h = absurd (omega arith)
octets-append (p ∷ q ∷ []) y n h = absurd (omega arith)
octets-append (p ∷ q ∷ r ∷ []) y n h = absurd (omega arith)
octets-append (p ∷ q ∷ r ∷ s ∷ x) y n h =
    ap (λ (l : List ℕ). (p * 4 + q / 16) ∷ (q % 16 * 16 + r / 4) ∷ (r % 4 * 64 + s) ∷ l) (octets-append x y (n - 1) (omega arith))

-- Only the last group matters.
pub canonical-drop : (v : List ℕ) (n : ℕ) → 4 * n ≤ length v → canonical v ≡ canonical (drop (4 * n) v)
unfolding canonical
canonical-drop v zero h = refl
canonical-drop [] (suc n) h = absurd (omega arith)
canonical-drop (p ∷ []) (suc n) h = absurd (omega arith)
canonical-drop (p ∷ q ∷ []) (suc n) h = absurd (omega arith)
canonical-drop (p ∷ q ∷ r ∷ []) (suc n) h = absurd (omega arith)
canonical-drop (p ∷ q ∷ r ∷ s ∷ v) (suc n) h =
    let e : 4 * suc n ≡ suc (suc (suc (suc (4 * n)))) = omega arith in
    rw e (canonical-drop v n (omega arith))
