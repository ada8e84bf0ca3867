-- The characters of the alphabet at the start of a text: whether it is accepted, and where the walk over it stops.
-- Assumes nothing.
use Prim.Native.Nat.{ℕ, zero, suc, ◌+◌, ◌-◌, ◌*◌, ◌/◌, ◌≤◌, ◌<◌}
use mathlib.Core.Path.{◌≡◌, refl, sym, ap, ◌∙◌, subst}
use mathlib.Core.Bool.{Bool, true, false, cond, ◌&&◌, not}
use mathlib.Core.List.{List, [], ◌∷◌, ◌++◌, map}
use mathlib.Core.Logic.{⊎_elim}
use native.Mathlib.Omega.{arith}
use lib.Dec.{eqb, ltb, leb}
use lib.ListN.{length, take, drop, get_or}
use lib.Seq.{length-take-le, get_or-take, take-add, drop_at}
use borrow.Author.Tests.{eqb-true, ne_eqb, lt-ltb, le-leb}
use Rattle.octets.proofs.Lists.{le_or_lt}
use Rattle.octets.proofs.Equality.{true_false}
use Rattle.encoding.specs.Base64url.{canonical, value, known, pad_character, pad_length, body, whole, accepted, decoded}
use Rattle.encoding.specs.Broken.{fewest_bytes, fits, stop_from, stop, any_number, broken_at}
use Rattle.encoding.specs.Leading.{Leading, before}
use Rattle.encoding.proofs.Characters.{known_not, value-padding}
use Rattle.encoding.proofs.Laws.{decoded-length, accepted_facts}
use Rattle.encoding.proofs.Answers.{by_end, by_body}
use Rattle.encoding.proofs.Closing.{fewest_most, fewest_groups}
use Rattle.encoding.proofs.Padded.{or_left}

-- ---- a text is accepted only if its body is what leads

-- Behind the body stands padding.
pad_there : (p : Bool) (t : List ℕ) → 0 < pad_length p t → get_or t (length t - pad_length p t) 0 ≡ pad_character
unfolding pad_length
pad_there false t h = absurd (omega arith)
pad_there true t h = go (eqb (get_or t (length t - 1) 0) pad_character) (eqb (get_or t (length t - 2) 0) pad_character) refl refl h
  where
    go : (x y : Bool) → eqb (get_or t (length t - 1) 0) pad_character ≡ x → eqb (get_or t (length t - 2) 0) pad_character ≡ y
        → 0 < cond x (cond y 2 1) 0 → get_or t (length t - cond x (cond y 2 1) 0) 0 ≡ pad_character
    go true true e f h = eqb-true (get_or t (length t - 2) 0) pad_character f
    go true false e f h = eqb-true (get_or t (length t - 1) 0) pad_character e
    go false y e f h = absurd (omega arith)

module _ (p : Bool) (t : List ℕ) (n : ℕ) (l : Leading n t) where
  -- No more leads than the body.
  leads_less : n ≤ length t - pad_length p t
  leads_less =
      ⊎_elim (λ h. h)
      (λ h. absurd (
      let i = l.inside in
      let e = pad_there p t (omega arith) in
      let v : value pad_character < 64 = subst (λ (c : ℕ). value c < 64) e (l.letters (length t - pad_length p t) h) in
      omega (arith, value-padding)))
      (le_or_lt n (length t - pad_length p t))

  pub body_leads : known (body p t) ≡ true → n ≡ length t - pad_length p t
  unfolding body
  body_leads k =
      ⊎_elim
      (λ h. let m = leads_less in omega arith)
      (λ h. absurd (
      let m : length t - pad_length p t ≤ length t = omega arith in
      let b : List ℕ = take (length t - pad_length p t) t in
      let f : length b ≡ length t - pad_length p t = length-take-le (length t - pad_length p t) t m in
      let g : get_or b n 0 ≡ get_or t n 0 = get_or-take (length t - pad_length p t) t n 0 h in
      true_false (sym k ∙ known_not b n (omega arith) (subst (λ (c : ℕ). 64 ≤ value c) (sym g) (l.next (omega arith))))))
      (le_or_lt (length t - pad_length p t) n)

  pub accepted_leads : accepted p t ≡ true → n ≡ length t - pad_length p t
  accepted_leads h = body_leads (accepted_facts p t h).1

  pub other_length : (n ≡ length t - pad_length p t → ⊥) → false ≡ accepted p t
  other_length h = go (accepted p t) refl
    where
      go : (b : Bool) → accepted p t ≡ b → false ≡ accepted p t
      go true e = absurd (h (accepted_leads e))
      go false e = sym e

  -- What leads is the body: then its last characters decide.
  pub by_last : (r : Bool) → whole p t ≡ true → n ≡ length t - pad_length p t → r ≡ canonical (map value (drop (4 * (n / 4)) (take n t))) → r ≡ accepted p t
  unfolding body
  by_last r w e f =
      let u : List ℕ = take n t in
      let m : length u ≡ n = length-take-le n t l.inside in
      let g : u ≡ body p t = ap (λ (k : ℕ). take k t) e in
      by_end u r (λ i h. subst (λ (c : ℕ). value c < 64) (sym (get_or-take n t i 0 (omega arith))) (l.letters i (omega arith))) (f ∙ ap (λ (k : ℕ). canonical (map value (drop (4 * (k / 4)) u))) (sym m))
      ∙ ap (accepted false) g ∙ sym (by_body p t w)

  pub leading_bytes : accepted p t ≡ true → n * 3 / 4 ≡ length (decoded p t)
  leading_bytes h = ap (λ (k : ℕ). k * 3 / 4) (accepted_leads h) ∙ sym (decoded-length p t)

-- A part of a text that starts at m, as what stands behind m in its first n characters.
pub part_of : (t : List ℕ) (m n : ℕ) → m ≤ n → n ≤ length t → take (n - m) (drop m t) ≡ drop m (take n t)
part_of t m n h k =
    let e : n ≡ m + (n - m) = omega arith in
    let f : take n t ≡ take m t ++ take (n - m) (drop m t) = ap (λ (i : ℕ). take i t) e ∙ take-add m (n - m) t in
    sym (ap (drop m) f ∙ drop_at (take m t) (take (n - m) (drop m t)) m (length-take-le m t (omega arith)))

-- ---- the walk

module _ (p : Bool) (least : ℕ) (allows : ℕ → Bool) where
  letter-fits : (i b c : ℕ) → value c < 64 → (b ≡ pad_character → ⊥) → allows (fewest_bytes (suc i) (value c)) ≡ true → fits p least allows i b c ≡ true
  unfolding fits
  letter-fits i b c v n a = or_left (ltb (value c) 64 && not (eqb b pad_character) && allows (fewest_bytes (suc i) (value c))) _ (rw (lt-ltb (value c) 64 v, ne_eqb b pad_character n) a)

  -- The walk passes k characters of the alphabet that are allowed.
  passes : (k i b : ℕ) (t : List ℕ) → k ≤ length t → (b ≡ pad_character → ⊥)
      → ((j : ℕ) → j < k → (value (get_or t j 0) < 64) × (allows (fewest_bytes (suc (i + j)) (value (get_or t j 0))) ≡ true))
      → stop_from p least allows i b t ≡ stop_from p least allows (i + k) (get_or (b ∷ t) k 0) (drop k t)
  unfolding stop_from
  passes zero i b t h n f = let e : i + 0 ≡ i = omega arith in rw e
  passes (suc k) i b [] h n f = absurd (omega arith)
  passes (suc k) i b (c ∷ t) h n f =
      let first = f 0 (omega arith) in
      let z : i + 0 ≡ i = omega arith in
      let e : suc i + k ≡ i + suc k = omega arith in
      let next : stop_from p least allows (suc i) c t ≡ stop_from p least allows (suc i + k) (get_or (c ∷ t) k 0) (drop k t) =
      passes k (suc i) c t (omega arith) (λ q. let m : value pad_character < 64 = subst (λ (x : ℕ). value x < 64) q first.0 in omega (arith, value-padding))
      (λ j g. let s : suc i + j ≡ i + suc j = omega arith in rw s (f (suc j) (omega arith))) in
      rw (letter-fits i b c first.0 n (rw z at first.1)) (next ∙ ap (λ (m : ℕ). stop_from p least allows m (get_or (c ∷ t) k 0) (drop k t)) e)

  pub stop_passes : (t : List ℕ) (k : ℕ) → k ≤ length t
      → ((j : ℕ) → j < k → (value (get_or t j 0) < 64) × (allows (fewest_bytes (suc j) (value (get_or t j 0))) ≡ true))
      → stop p least allows t ≡ stop_from p least allows k (before t k) (drop k t)
  unfolding stop
  stop_passes t k h f =
      let e : 0 + k ≡ k = omega arith in
      passes k 0 0 t h (λ q. omega arith) (λ j g. let z : 0 + j ≡ j = omega arith in rw z (f j g))
      ∙ ap (λ (m : ℕ). stop_from p least allows m (before t k) (drop k t)) e

-- The walk stops inside the text or at its end.
pub stop-inside : (p : Bool) (least : ℕ) (allows : ℕ → Bool) (i b : ℕ) (t : List ℕ) → stop_from p least allows i b t ≤ i + length t
unfolding stop_from
stop-inside p least allows i b [] = omega arith
stop-inside p least allows i b (c ∷ t) = go (fits p least allows i b c) (stop-inside p least allows (suc i) c t)
  where
    go : (x : Bool) → stop_from p least allows (suc i) c t ≤ suc i + length t → cond x (stop_from p least allows (suc i) c t) i ≤ i + suc (length t)
    go true h = omega arith
    go false h = omega arith

-- Two limits that agree on every number of bytes that the text can have.
same-fits : (p : Bool) (least : ℕ) (f g : ℕ → Bool) (i b c : ℕ) → f (fewest_bytes (suc i) (value c)) ≡ g (fewest_bytes (suc i) (value c)) → fits p least f i b c ≡ fits p least g i b c
unfolding fits
same-fits p least f g i b c e = rw e

pub same_stop : (p : Bool) (least : ℕ) (f g : ℕ → Bool) (i b : ℕ) (t : List ℕ) → ((n : ℕ) → n ≤ i + length t → f n ≡ g n) → stop_from p least f i b t ≡ stop_from p least g i b t
unfolding stop_from
same_stop p least f g i b [] h = refl
same_stop p least f g i b (c ∷ t) h =
    let e = same-fits p least f g i b c (h (fewest_bytes (suc i) (value c)) (let m = fewest_most (suc i) (value c) in omega arith)) in
    let next = same_stop p least f g (suc i) c t (λ n k. h n (omega arith)) in
    rw (e, next)

-- Of a text of which n characters lead: the first of them, as many as the groups hold that the limit allows, are passed.
pub stop-limit : (p : Bool) (least limit : ℕ) (t : List ℕ) (n k : ℕ) → Leading n t → k ≤ n → k ≤ limit / 3 * 4
    → stop p least (λ m. leb m limit) t ≡ stop_from p least (λ m. leb m limit) k (before t k) (drop k t)
stop-limit p least limit t n k l a b =
    stop_passes p least (λ m. leb m limit) t k (let i = l.inside in omega arith)
    (λ j h. let f = fewest_groups (suc j) (value (get_or t j 0)) (limit / 3) (omega arith) in (l.letters j (omega arith), le-leb (fewest_bytes (suc j) (value (get_or t j 0))) limit (omega arith)))

-- The characters that lead in the first m.
pub leading_part : (t : List ℕ) (n m : ℕ) → Leading n t → m ≤ length t → (k : ℕ) → (n ≤ m → k ≡ n) → (m < n → k ≡ m) → Leading k (take m t)
leading_part t n m l h k a b =
    let e : length (take m t) ≡ m = length-take-le m t h in
    ⊎_elim
    (λ c. let f = a c in
    record {
      inside = omega arith;
      letters = λ i j. subst (λ (x : ℕ). value x < 64) (sym (get_or-take m t i 0 (omega arith))) (l.letters i (omega arith));
      next = λ j. subst (λ (x : ℕ). 64 ≤ value x) (sym (get_or-take m t k 0 (omega arith))) (subst (λ (i : ℕ). 64 ≤ value (get_or t i 0)) (sym f) (l.next (omega arith)));
    })
    (λ c. let f = b c in
    record {
      inside = omega arith;
      letters = λ i j. subst (λ (x : ℕ). value x < 64) (sym (get_or-take m t i 0 (omega arith))) (l.letters i (omega arith));
      next = λ j. absurd (omega arith);
    })
    (le_or_lt n m)

-- A text has no more bytes than characters, so that its length is no limit.
pub no_limit : (p : Bool) (t : List ℕ) (n : ℕ) → Leading n t → stop_from p 0 (λ k. leb k (length t)) n (before t n) (drop n t) ≡ broken_at p t
unfolding broken_at stop
no_limit p t n l =
    sym (
    same_stop p 0 any_number (λ k. leb k (length t)) 0 0 t (λ k h. sym (le-leb k (length t) (omega arith)))
    ∙ stop_passes p 0 (λ k. leb k (length t)) t n l.inside
    (λ j h. let i = l.inside in let m = fewest_most (suc j) (value (get_or t j 0)) in (l.letters j h, le-leb (fewest_bytes (suc j) (value (get_or t j 0))) (length t) (omega arith))))
