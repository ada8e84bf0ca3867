-- What the check of a base64url text answers.
-- Assumes nothing.
use Prim.Native.Nat.{ℕ, ◌-◌, ◌*◌, ◌/◌, ◌%◌, ◌≤◌, ◌<◌}
use mathlib.Core.Path.{◌≡◌, refl, sym, ap, ◌∙◌}
use mathlib.Core.List.{List, map}
use mathlib.Core.Bool.{Bool, true, false, ◌&&◌}
use native.Mathlib.Omega.{arith}
use lib.Dec.{eqb}
use lib.ListN.{length, take, drop, get_or, length-map}
use Rattle.octets.proofs.Lists.{map-drop, list_tab}
use Rattle.encoding.specs.Base64url.{canonical, value, known, pad_length, body, whole, accepted, decoded}
use Rattle.encoding.specs.Broken.{broken_at}
use Rattle.encoding.specs.Measures.{answer, measure_of, broken}
use Rattle.std.proofs.Common.{Ok, Err}
use Rattle.encoding.specs.declared.base64url.BrokenAt.{BrokenAt}
use Rattle.encoding.proofs.Sextets.{canonical-drop}
use Rattle.encoding.proofs.Characters.{known_all}
use Rattle.encoding.proofs.Padding.{bare_body}

-- A text that the check refuses is not accepted, and broken at that place.
pub refused-text : (p : Bool) (t : List ℕ) (q : ℕ) → measure_of p t ≡ Err (broken q) → (accepted p t ≡ false) × (q ≡ broken_at p t)
unfolding measure_of
refused-text p t q e = go (accepted p t) e
  where
    go : (b : Bool) → answer b (length (decoded p t)) (broken_at p t) ≡ Err (broken q) → (b ≡ false) × (q ≡ broken_at p t)
    go true e = let z : ◌≡◌ {A = ℕ} 0 1 = cc in absurd (omega arith)
    go false e = let z : broken (broken_at p t) ≡ broken q = cc in (refl, sym (ap (λ (b : BrokenAt). b.0) z))

-- ---- a text without padding

bare : (t : List ℕ) → accepted false t ≡ (known t && canonical (map value t))
unfolding accepted whole
bare t = rw (bare_body t)

-- All characters are known: then the last ones decide.
pub by_end : (t : List ℕ) (r : Bool) → ((i : ℕ) → i < length t → value (get_or t i 0) < 64) → r ≡ canonical (map value (drop (4 * (length t / 4)) t)) → r ≡ accepted false t
by_end t r h e =
    let m = 4 * (length t / 4) in
    let k : known t ≡ true = known_all t h in
    let l : m ≤ length (map value t) = omega (arith, length-map t value) in
    e ∙ ap canonical (map-drop value m t) ∙ sym (canonical-drop (map value t) (length t / 4) l) ∙ sym (bare t ∙ ap (λ (b : Bool). b && canonical (map value t)) k)

-- ---- the last characters, fewer than four

module _ (t : List ℕ) where
  pub no_end : length t ≡ 0 → true ≡ canonical (map value t)
  unfolding canonical
  no_end h = rw (list_tab 0 t h)

  pub end_of_one : length t ≡ 1 → false ≡ canonical (map value t)
  unfolding canonical
  end_of_one h = rw (list_tab 1 t h)

  pub end_of_two : {v : ℕ} → length t ≡ 2 → v ≡ value (get_or t 1 0) → eqb (v % 16) 0 ≡ canonical (map value t)
  unfolding canonical
  end_of_two h e = rw (list_tab 2 t h, e)

  pub end_of_three : {v : ℕ} → length t ≡ 3 → v ≡ value (get_or t 2 0) → eqb (v % 4) 0 ≡ canonical (map value t)
  unfolding canonical
  end_of_three h e = rw (list_tab 3 t h, e)

-- ---- any text

pub refused : (p : Bool) (t : List ℕ) → accepted p t ≡ false → Err (broken (broken_at p t)) ≡ measure_of p t
unfolding measure_of
refused p t e = rw e

pub measured : (p : Bool) (t : List ℕ) → accepted p t ≡ true → Ok (length (decoded p t)) ≡ measure_of p t
unfolding measure_of
measured p t e = rw e

pub not_whole : (p : Bool) (t : List ℕ) → whole p t ≡ false → accepted p t ≡ false
unfolding accepted
not_whole p t e = rw e

pub by_body : (p : Bool) (t : List ℕ) → whole p t ≡ true → accepted p t ≡ accepted false (body p t)
unfolding accepted
by_body p t e = rw e (sym (bare (body p t)))

-- Of the last characters r are padding.
module _ (p : Bool) (t : List ℕ) (r : ℕ) (e : r ≡ pad_length p t) where
  pub body_is : take (length t - r) t ≡ body p t
  unfolding body
  body_is = ap (λ (k : ℕ). take (length t - k) t) e
