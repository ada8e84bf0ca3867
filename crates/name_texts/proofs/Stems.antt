-- A full name's stem and end, as the code looks at them: limits, what leads, and where the text is broken.
-- Assumes nothing.
use Prim.Native.Nat.{ℕ, zero, suc, ◌+◌, ◌-◌, ◌*◌, ◌/◌, ◌≤◌, ◌<◌, min}
use mathlib.Core.Path.{◌≡◌, refl, sym, ap, ◌∙◌, subst}
use mathlib.Core.Bool.{true, false, ◌&&◌}
use mathlib.Core.List.{List, [], ◌∷◌}
use native.Mathlib.Omega.{arith}
use lib.Dec.{leb}
use lib.ListN.{length, take, drop, get_or, length-drop}
use lib.Seq.{get_or-drop}
use borrow.Author.Tests.{eq-eqb, ne_eqb, le-leb, lt-leb, leb-true}
use Rattle.octets.proofs.Equality.{iff, and_true, true_and}
use Rattle.octets.proofs.Lists.{part-rest}
use Rattle.encoding.specs.Base64url.{alphabet, place, value, accepted, decoded, encoded_length}
use Rattle.encoding.specs.Broken.{within, stop_from, stop}
use Rattle.encoding.specs.Leading.{Leading, before}
use Rattle.encoding.proofs.Leading.{leading_part, stop-inside, stop-limit, same_stop}
use Rattle.name_spec.specs.Names.{name_limit, iv_size, full_end}
use Rattle.name_spec.proofs.Broken.{common-inside}
use Rattle.name_spec.specs.Places.{common, stem_allows, text_broken_at}

-- ---- limits

-- So many bytes are allowed, and no more.
abbrev pub Limits : ℕ → ℕ → Type 0
Limits most limit = (n : ℕ) → leb n limit ≡ stem_allows most n

module _ (most : ℕ) (some : 4 ≤ most) where
  pub by_characters : (most - 4) / 4 * 3 < name_limit + iv_size → Limits most ((most - 4) / 4 * 3)
  unfolding stem_allows encoded_length
  by_characters h n =
      iff (leb n ((most - 4) / 4 * 3)) (leb n (name_limit + iv_size) && leb (encoded_length true n + 4) most)
      (λ e. let k = leb-true n ((most - 4) / 4 * 3) e in true_and _ _ (le-leb n (name_limit + iv_size) (omega arith)) (le-leb ((n + 2) / 3 * 4 + 4) most (omega arith)))
      (λ e. let k = leb-true ((n + 2) / 3 * 4 + 4) most (and_true (leb n (name_limit + iv_size)) _ e).1 in le-leb n ((most - 4) / 4 * 3) (omega arith))

  pub by_bytes : name_limit + iv_size ≤ (most - 4) / 4 * 3 → Limits most (name_limit + iv_size)
  unfolding stem_allows encoded_length
  by_bytes h n =
      iff (leb n (name_limit + iv_size)) (leb n (name_limit + iv_size) && leb (encoded_length true n + 4) most)
      (λ e. let k = leb-true n (name_limit + iv_size) e in true_and _ _ e (le-leb ((n + 2) / 3 * 4 + 4) most (omega arith)))
      (λ e. (and_true (leb n (name_limit + iv_size)) _ e).0)

-- So the limit is at most that of the longest name.
pub limit-low : (most limit : ℕ) → Limits most limit → limit ≤ name_limit + iv_size
unfolding stem_allows
limit-low most limit f = leb-true limit (name_limit + iv_size) (and_true (leb limit (name_limit + iv_size)) _ (sym (f limit) ∙ le-leb limit limit (omega arith))).0

-- ---- what leads

-- No more leads in a text that ends in ".c9r" than in its stem.
pub leading_stem : (t : List ℕ) (n : ℕ) → Leading n t → 4 ≤ length t → drop (length t - 4) t ≡ full_end → Leading n (take (length t - 4) t)
unfolding value place alphabet
leading_stem t n l h e =
    leading_part t n (length t - 4) l (omega arith) n (λ k. refl)
    (λ k. absurd (
    let z : length t - 4 + 0 ≡ length t - 4 = omega arith in
    let d : get_or t (length t - 4) 0 ≡ 0x2e = ap (λ (i : ℕ). get_or t i 0) (sym z) ∙ sym (get_or-drop (length t - 4) t 0 0) ∙ ap (λ (s : List ℕ). get_or s 0 0) e in
    let v : value 0x2e < 64 = subst (λ (c : ℕ). value c < 64) d (l.letters (length t - 4) k) in
    omega arith))

-- ---- a stem

module _ (limit : ℕ) (t : List ℕ) where
  pub no_stem : accepted true t ≡ false → false ≡ within true 17 (λ k. leb k limit) t
  unfolding within
  no_stem e = rw e

  module _ (m : ℕ) (ok : (accepted true t ≡ true) × (length (decoded true t) ≡ m)) where
    pub short-stem : m < 17 → false ≡ within true 17 (λ k. leb k limit) t
    unfolding within
    short-stem h = rw (ok.0, ok.1, lt-leb 17 m h)

    pub by_limit : 17 ≤ m → leb m limit ≡ within true 17 (λ k. leb k limit) t
    unfolding within
    by_limit h = rw (ok.0, ok.1, le-leb 17 m h)

-- ---- what a text and an end have in common

-- r characters are alike, and behind them either ends, or the next two differ.
pub common_is : (t e : List ℕ) (r : ℕ) → r ≤ length t → r ≤ length e → ((k : ℕ) → k < r → get_or t k 0 ≡ get_or e k 0)
    → (r < length t → r < length e → get_or t r 0 ≡ get_or e r 0 → ⊥) → r ≡ common t e
unfolding common
common_is [] e r h k a n = omega arith
common_is (c ∷ t) [] r h k a n = omega arith
common_is (c ∷ t) (d ∷ e) zero h k a n = rw (ne_eqb c d (n (omega arith) (omega arith)))
common_is (c ∷ t) (d ∷ e) (suc r) h k a n =
    let q = common_is t e r (omega arith) (omega arith) (λ i l. a (suc i) (omega arith)) (λ l m. n (omega arith) (omega arith)) in
    rw (eq-eqb c d (a 0 (omega arith)), ← q)

-- ---- the place

module _ (most limit : ℕ) (limits : Limits most limit) (t : List ℕ) (n : ℕ) (l : Leading n t) where
  -- The walk from a place that it reaches at once.
  pub walked : (k : ℕ) → k ≤ n → k ≤ limit / 3 * 4 → stop_from true 17 (λ m. leb m limit) k (before t k) (drop k t) ≡ stop true 17 (stem_allows most) t
  unfolding stop
  walked k a b = sym (same_stop true 17 (stem_allows most) (λ m. leb m limit) 0 0 t (λ m h. sym (limits m)) ∙ stop-limit true 17 limit t n k l a b)

  pub walk_inside : stop true 17 (stem_allows most) t ≤ length t
  unfolding stop
  walk_inside = omega (arith, stop-inside true 17 (stem_allows most) 0 0 t)

  -- The walk from the lesser of n and whole groups of the longest stem stops at j.
  module _ (from j : ℕ) (a : from ≡ min n (limit / 3 * 4)) (e : j ≡ stop_from true 17 (λ m. leb m limit) from (before t from) (drop from t)) where
    stopped : j ≡ stop true 17 (stem_allows most) t
    stopped = e ∙ walked from (omega arith) (omega arith)

    pub inside : j ≤ length t
    inside = omega (arith, stopped, walk_inside)

    pub leads : (k : ℕ) → k ≡ min n j → Leading k (take j t)
    leads k m = leading_part t n j l inside k (λ h. omega arith) (λ h. omega arith)

    same-within : (s : List ℕ) → within true 17 (stem_allows most) s ≡ within true 17 (λ m. leb m limit) s
    unfolding within
    same-within s = rw (← limits (length (decoded true s)))

    pub in_stem : false ≡ within true 17 (λ m. leb m limit) (take j t) → j ≡ text_broken_at most t
    unfolding text_broken_at
    in_stem f = rw (← stopped, same-within (take j t), ← f)

    -- Behind a whole stem, k characters are those of the end.
    module _ (k : ℕ) (b : k ≡ common (take (length t - j) (drop j t)) full_end) where
      behind : k ≡ common (drop j t) full_end
      behind = b ∙ ap (λ (s : List ℕ). common s full_end) (part-rest t (length t) j refl)

      pub end_inside : j + k ≤ length t
      end_inside = omega (arith, behind, inside, common-inside (drop j t) full_end, length-drop j t)

      pub at-end : true ≡ within true 17 (λ m. leb m limit) (take j t) → j + k ≡ text_broken_at most t
      unfolding text_broken_at
      at-end f = rw (← stopped, same-within (take j t), ← f, behind)
