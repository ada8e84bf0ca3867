-- Where the text form of a full name goes wrong: the walk through its stem, and its end.
-- Assumes nothing.
use Prim.Native.Nat.{ℕ, suc, ◌+◌, ◌-◌, ◌*◌, ◌/◌, ◌≤◌, ◌<◌}
use mathlib.Core.Path.{◌≡◌, refl, sym, ap, ◌∙◌, subst}
use mathlib.Core.List.{List, [], ◌∷◌, ◌++◌, append_assoc}
use mathlib.Core.Bool.{Bool, true, false, cond, ◌&&◌}
use mathlib.Core.Logic.{⊎_elim}
use native.Mathlib.Omega.{arith}
use native.Mathlib.Nat.{le_of_suc-le-suc}
use lib.Dec.{eqb, leb}
use lib.ListN.{length, take, drop, get_or, length-append, length-drop, take-append-drop, get_or-append}
use lib.Seq.{take_at, drop_at, take-add, take-take, take-append-le, length-take-le, get_or_at, get_or-take}
use borrow.Author.Tests.{eqb-true, eqb-false, le-leb, leb-true}
use Rattle.octets.proofs.Equality.{and_true, true_and, true_false}
use Rattle.octets.proofs.Lists.{le_or_lt}
use Rattle.encoding.specs.Base64url.{alphabet, place, value, pad, pad_character, accepted, decoded, encoded_length}
use Rattle.encoding.specs.Places.{Begins, Place}
use Rattle.encoding.specs.Broken.{within, stop}
use Rattle.encoding.proofs.Characters.{known_at}
use Rattle.encoding.proofs.Laws.{decoded_was_encoded, encoded-length}
use Rattle.encoding.proofs.Padded.{pad-letter, pad-behind}
use Rattle.encoding.proofs.Walk.{shape, Stops, walk_stops}
use Rattle.name_spec.specs.Names.{name_limit, iv_size, full_end, stem, sealed_of, text_right}
use Rattle.name_spec.specs.Places.{common, stem_allows, text_broken_at}
use Rattle.name_spec.proofs.Texts.{stem_of, end_of, text_facts, text-right}

-- ---- the end

pub common-inside : (t e : List ℕ) → common t e ≤ length t
unfolding common
common-inside [] e = omega arith
common-inside (c ∷ t) [] = omega arith
common-inside (c ∷ t) (d ∷ e) = go (eqb c d) (common-inside t e)
  where
    go : (b : Bool) → common t e ≤ length t → cond b (suc (common t e)) 0 ≤ suc (length t)
    go true h = omega arith
    go false h = omega arith

common-same : (t e : List ℕ) → take (common t e) t ≡ take (common t e) e
unfolding common
common-same [] [] = refl
common-same [] (d ∷ e) = refl
common-same (c ∷ t) [] = refl
common-same (c ∷ t) (d ∷ e) = go (eqb c d) refl (common-same t e)
  where
    go : (b : Bool) → eqb c d ≡ b → take (common t e) t ≡ take (common t e) e → take (cond b (suc (common t e)) 0) (c ∷ t) ≡ take (cond b (suc (common t e)) 0) (d ∷ e)
    go true f h = let g : c ≡ d = eqb-true c d f in cc
    go false f h = refl

-- No more of t is of e.
common_most : (t e : List ℕ) → common t e < length t → (v : List ℕ) → take (suc (common t e)) t ++ v ≡ e → ⊥
unfolding common
common_most [] e h v q = omega arith
common_most (c ∷ t) [] h v q = omega (arith, ap length q)
common_most (c ∷ t) (d ∷ e) h v q = go (eqb c d) refl (common_most t e) h q
  where
    go : (b : Bool) → eqb c d ≡ b → (common t e < length t → (v : List ℕ) → take (suc (common t e)) t ++ v ≡ e → ⊥)
        → cond b (suc (common t e)) 0 < suc (length t) → take (suc (cond b (suc (common t e)) 0)) (c ∷ t) ++ v ≡ d ∷ e → ⊥
    go true f k h q = k (le_of_suc-le-suc h) v (ap (drop 1) q)
    go false f k h q = eqb-false c d f (ap (λ (l : List ℕ). get_or l 0 0) q)

-- ---- a stem and its end

-- A text that begins with u, cut.
begins_cut : (Right : List ℕ → Type 0) (s u v : List ℕ) (n : ℕ) → Right s → s ++ u ≡ v → n ≤ length s → Begins Right (take n v)
begins_cut Right s u v n h e k =
    let f : take n v ≡ take n s = ap (take n) (sym e) ∙ take-append-le n s u k in
    (drop n s, rw (f, take-append-drop n s) h)

-- The length of a stem, by the bytes that it stands for.
stem-length : (s : List ℕ) → accepted true s ≡ true → length s ≡ encoded_length true (length (decoded true s))
stem-length s h = ap length (decoded_was_encoded true s h).0 ∙ encoded-length true (decoded true s)

module _ (most : ℕ) where
  -- A stem, and a full name, within the limits.
  abbrev pub Stem : List ℕ → Type 0
  Stem s = within true (1 + iv_size) (stem_allows most) s ≡ true

  abbrev pub Full : List ℕ → Type 0
  Full t = (text_right t ≡ true) × (length t ≤ most)

  pub fewer : (a b : ℕ) → a ≤ b → stem_allows most b ≡ true → stem_allows most a ≡ true
  unfolding stem_allows encoded_length
  fewer a b h k =
      let f = and_true (leb b (name_limit + iv_size)) (leb (encoded_length true b + 4) most) k in
      let x = leb-true b (name_limit + iv_size) f.0 in
      let y : (b + 2) / 3 * 4 + 4 ≤ most = leb-true (encoded_length true b + 4) most f.1 in
      true_and (leb a (name_limit + iv_size)) (leb (encoded_length true a + 4) most) (le-leb a (name_limit + iv_size) (omega arith)) (le-leb (encoded_length true a + 4) most (omega arith))

  name_join : (s : List ℕ) → Stem s → Full (s ++ full_end)
  unfolding within stem_allows sealed_of
  name_join s h =
      let a = and_true (accepted true s && leb (1 + iv_size) (length (decoded true s))) _ h in
      let b = and_true (accepted true s) (leb (1 + iv_size) (length (decoded true s))) a.0 in
      let c = and_true (leb (length (decoded true s)) (name_limit + iv_size)) (leb (encoded_length true (length (decoded true s)) + 4) most) a.1 in
      let l : length (s ++ full_end) ≡ length s + 4 = length-append s full_end in
      let d : decoded true (stem (s ++ full_end)) ≡ decoded true s = ap (decoded true) (stem_of s) in
      let m = ap length d in
      let low = leb-true (1 + iv_size) (length (decoded true s)) b.1 in
      let high = leb-true (length (decoded true s)) (name_limit + iv_size) c.0 in
      let size = leb-true (encoded_length true (length (decoded true s)) + 4) most c.1 in (
        text-right (s ++ full_end) (record { ends = end_of s; accepted = ap (accepted true) (stem_of s) ∙ b.0; low = omega (arith, m, low); high = omega (arith, m, high) }),
        omega (arith, l, size, stem-length s b.0),
      )

  name_split : (t : List ℕ) → Full t → Stem (stem t) × (stem t ++ full_end ≡ t)
  unfolding within stem_allows sealed_of
  name_split t h =
      let s : List ℕ = stem t in
      let f = text_facts t h.0 in
      let j : s ++ full_end ≡ t = rw (← f.ends) (take-append-drop (length t - length full_end) t) in
      let l : length s + 4 ≡ length t = sym (length-append s full_end) ∙ ap length j in
      let m = h.1 in
      let n = stem-length s f.accepted in
      let a = le-leb (1 + iv_size) (length (decoded true s)) f.low in
      let b = le-leb (length (decoded true s)) (name_limit + iv_size) f.high in
      (true_and _ _ (true_and _ _ f.accepted a) (true_and _ _ b (le-leb (encoded_length true (length (decoded true s)) + 4) most (omega arith))), j)

  -- '.' stands in no stem.
  no_dot : (s : List ℕ) (i : ℕ) → Stem s → i < length s → get_or s i 0 ≡ 0x2e → ⊥
  unfolding value place alphabet
  no_dot s i h k e =
      let sh = shape true (1 + iv_size) (stem_allows most) fewer s h in
      let f : get_or (pad true sh.letters) i 0 ≡ 0x2e = ap (λ (l : List ℕ). get_or l i 0) (sym sh.padded) ∙ e in
      ⊎_elim
      (λ b. let g = pad-behind true sh.letters i b (omega (arith, ap length sh.padded)) in let z : pad_character ≡ 0x2e = sym g.1 ∙ f in omega arith)
      (λ b.
      let g : get_or sh.letters i 0 ≡ 0x2e = sym (pad-letter true sh.letters i b) ∙ f in
      let l : value 0x2e < 64 = subst (λ (x : ℕ). value x < 64) g (known_at sh.letters sh.all_known i b) in
      omega arith)
      (le_or_lt (length sh.letters) i)

  -- ---- the place

  module _ (some : stem_allows most (1 + iv_size) ≡ true) (t : List ℕ) (j : ℕ) (st : Stops true (1 + iv_size) (stem_allows most) fewer some t j) where
    -- A full name that begins as t does, past the place j where the walk through the stem stops, has its end at j.
    end-at : (m : ℕ) → j ≤ m → m < length t → (v : List ℕ) → Full (take (suc m) t ++ v) → Stem (take j t) × (take (suc m) t ++ v ≡ take j t ++ full_end)
    end-at m h k v q =
        ⊎_elim
        (λ a. ⊎_elim
        (λ b. let e : length S ≡ j = omega arith in
        let f : S ≡ take j t = sym (take_at S full_end j e) ∙ ap (take j) sp.1 ∙ cut j (omega arith) in
        (subst Stem f sp.0, sym sp.1 ∙ ap (λ (l : List ℕ). l ++ full_end) f))
        (λ b. absurd (dot b))
        (le_or_lt j (length S)))
        (λ a. absurd (st.here (omega arith) (rw (cut (suc j) (omega arith)) at (begins_cut Stem S full_end T (suc j) sp.0 sp.1 a))))
        (le_or_lt (length S) j)
      where
        T : List ℕ
        T = take (suc m) t ++ v

        S : List ℕ
        S = stem T

        sp : Stem S × (S ++ full_end ≡ T)
        sp = name_split T q

        cut : (n : ℕ) → n ≤ suc m → take n T ≡ take n t
        cut n e =
            let l : length (take (suc m) t) ≡ suc m = length-take-le (suc m) t k in
            take-append-le n (take (suc m) t) v (omega arith) ∙ take-take n (suc m) t e

        dot : length S < j → ⊥
        dot b =
            let l : length (take j t) ≡ j = length-take-le j t (omega arith) in
            let g = st.before in
            let a : get_or (take j t ++ g.0) (length S) 0 ≡ get_or (take j t) (length S) 0 = get_or-append (take j t) g.0 0 (length S) (omega arith) in
            let c : get_or (take j t) (length S) 0 ≡ get_or T (length S) 0 = ap (λ (x : List ℕ). get_or x (length S) 0) (sym (cut j (omega arith))) ∙ get_or-take j T (length S) 0 b in
            let d : get_or T (length S) 0 ≡ 0x2e = ap (λ (x : List ℕ). get_or x (length S) 0) (sym sp.1) ∙ get_or_at S 0x2e _ 0 (length S) refl in
            no_dot (take j t ++ g.0) (length S) g.1 (omega (arith, length-append (take j t) g.0)) (a ∙ c ∙ d)

    -- The walk stopped after a whole stem.
    after-stem : (Full t → ⊥) → Stem (take j t) → Place Full t (j + common (drop j t) full_end)
    after-stem w r =
        record {
          broken = w;
          inside = (let h = st.inside in omega (arith, behind));
          before = (drop k full_end, rw (take-add j k t, common-same (drop j t) full_end, append_assoc, take-append-drop k full_end) (name_join (take j t) r));
          here = λ h g. halts h g;
        }
      where
        k : ℕ
        k = common (drop j t) full_end

        behind : k ≤ length t - j
        behind = rw (← length-drop j t) (common-inside (drop j t) full_end)

        halts : j + k < length t → Begins Full (take (suc (j + k)) t) → ⊥
        halts h g =
            let e = (end-at (j + k) (omega arith) h g.0 g.1).1 in
            let n : suc (j + k) ≡ j + suc k = omega arith in
            let l : length (take j t) ≡ j = length-take-le j t (omega arith) in
            let f : take j t ++ (take (suc k) (drop j t) ++ g.0) ≡ take j t ++ full_end = rw (← append_assoc, ← take-add j (suc k) t, ← n) e in
            let c : take (suc k) (drop j t) ++ g.0 ≡ full_end = sym (drop_at (take j t) (take (suc k) (drop j t) ++ g.0) j l) ∙ ap (drop j) f ∙ drop_at (take j t) full_end j l in
            common_most (drop j t) full_end (rw length-drop (omega arith)) g.0 c

    -- The walk stopped inside a stem.
    in_stem : (Full t → ⊥) → (Stem (take j t) → ⊥) → Place Full t j
    in_stem w r =
        record {
          broken = w;
          inside = st.inside;
          before = (st.before.0 ++ full_end, rw (← append_assoc) (name_join (take j t ++ st.before.0) st.before.1));
          here = λ h g. r (end-at j (omega arith) h g.0 g.1).0;
        }

  -- Under a limit that some full name keeps.
  pub full-place : 28 ≤ most → (t : List ℕ) → (Full t → ⊥) → Place Full t (text_broken_at most t)
  unfolding text_broken_at stem_allows encoded_length
  full-place a t w = go (within true (1 + iv_size) (stem_allows most) (take j t)) refl
    where
      some : stem_allows most (1 + iv_size) ≡ true
      some = le-leb 28 most a

      j : ℕ
      j = stop true (1 + iv_size) (stem_allows most) t

      st : Stops true (1 + iv_size) (stem_allows most) fewer some t j
      st = walk_stops true (1 + iv_size) (stem_allows most) fewer some t

      go : (x : Bool) → within true (1 + iv_size) (stem_allows most) (take j t) ≡ x → Place Full t (cond x (j + common (drop j t) full_end) j)
      go true e = after-stem some t j st w e
      go false e = in_stem some t j st w (λ h. true_false (sym h ∙ e))
