-- The walk over a base64url text stops at its place: one proof for both kinds of padding and for every limit.
-- Assumes nothing.
use Prim.Native.Nat.{ℕ, zero, suc, ◌+◌, ◌-◌, ◌*◌, ◌/◌, ◌%◌, ◌≤◌, ◌<◌}
use mathlib.Core.Path.{◌≡◌, refl, sym, ap, ◌∙◌, subst}
use mathlib.Core.List.{List, [], ◌∷◌, ◌++◌, map, append-nil, append_assoc}
use mathlib.Core.Bool.{Bool, true, false, cond, ◌&&◌, not}
use mathlib.Core.Logic.{◌⊎◌, inl, inr, ⊎_elim}
use native.Mathlib.Omega.{arith}
use lib.Dec.{eqb, ltb, leb}
use lib.ListN.{length, take, get_or, replicate, length-append, length-replicate, length-map, get_or-append}
use lib.Seq.{get_or_at, take_at, take-length}
use borrow.Author.Tests.{eq-eqb, ne_eqb, eqb-true, le-leb, leb-true, lt-ltb, ltb-true, not-true}
use Rattle.octets.proofs.Equality.{and_true, true_false}
use Rattle.octets.proofs.Lists.{le_or_lt}
use Rattle.encoding.specs.Base64url.{alphabet, place, octets, value, known, pad, pad_character, body, accepted, decoded}
use Rattle.encoding.proofs.Characters.{known_at, no_padding}
use Rattle.encoding.proofs.Sextets.{length-octets}
use Rattle.encoding.proofs.Padding.{whole-pad, body-pad, pad-body, length-pad, four_ways}
use Rattle.encoding.proofs.Laws.{accepted_facts}
use Rattle.encoding.specs.Places.{Begins}
use Rattle.encoding.specs.Broken.{fewest_bytes, pad_fits, within, fits, stop_from, stop}
use Rattle.encoding.proofs.Closing.{last_of, Closes, closes, closed, fewest_none, fewest_closed, fewest_within, room_for, fills_it, no_one, either, round_none, round_more, known-append, letter_a, known_as, last_snoc, last_as}
use Rattle.encoding.proofs.Padded.{or_true, or_left, or_right, pad-letter, pad-behind, pad_more, third_fits, fourth_fits, after-pad-fits, pad_cases, pad-two, pad_three}

value_a : value letter_a ≡ 0
unfolding value place alphabet
value_a = refl

module _ (p : Bool) (least : ℕ) (allows : ℕ → Bool) (down : (a b : ℕ) → a ≤ b → allows b ≡ true → allows a ≡ true) where
  abbrev pub R : List ℕ → Type 0
  R t = within p least allows t ≡ true

  -- What a text in question is: characters of the alphabet, padded.
  pub record Shape (s : List ℕ) : Type 0 where
    pub letters : List ℕ
    pub padded : s ≡ pad p letters
    pub all_known : known letters ≡ true
    pub whole : Closes (length letters) (value (last_of letters))
    pub enough : least ≤ length letters * 3 / 4
    pub allowed : allows (length letters * 3 / 4) ≡ true

  pub shape : (s : List ℕ) → within p least allows s ≡ true → Shape s
  unfolding within decoded
  shape s h =
      let a = and_true (accepted p s && leb least (length (decoded p s))) (allows (length (decoded p s))) h in
      let b = and_true (accepted p s) (leb least (length (decoded p s))) a.0 in
      let f = accepted_facts p s b.0 in
      let l : length (decoded p s) ≡ length (body p s) * 3 / 4 = length-octets (map value (body p s)) ∙ ap (λ (x : ℕ). x * 3 / 4) (length-map (body p s) value) in
      record {
        letters = body p s;
        padded = sym (pad-body p s f.0);
        all_known = f.1;
        whole = closes 0 (body p s) f.2;
        enough = (let k = leb-true least (length (decoded p s)) b.1 in omega arith);
        allowed = rw l at a.1;
      }

  pub shaped : (w : List ℕ) → known w ≡ true → Closes (length w) (value (last_of w)) → least ≤ length w * 3 / 4 → allows (length w * 3 / 4) ≡ true
      → within p least allows (pad p w) ≡ true
  unfolding within decoded accepted
  shaped w h k e f =
      let b : body p (pad p w) ≡ w = body-pad p w h k.one in
      let l : length (octets (map value w)) ≡ length w * 3 / 4 = length-octets (map value w) ∙ ap (λ (x : ℕ). x * 3 / 4) (length-map w value) in
      rw (b, l, whole-pad p w, h, closed 0 w k, le-leb least (length w * 3 / 4) e) f

  -- ---- what does not fit has no continuation

  -- The character before place i of a text that begins with u.
  before : (u t : List ℕ) (i : ℕ) → length u ≡ suc i → last_of u ≡ get_or (u ++ t) i 0
  before u t i e = ap (λ (k : ℕ). get_or (0 ∷ u) k 0) e ∙ sym (get_or-append u t 0 i (omega arith))

  module _ (u : List ℕ) (c : ℕ) (v : List ℕ) (sh : Shape (u ++ c ∷ v)) where
    w : List ℕ
    w = sh.letters

    here_is : get_or (pad p w) (length u) 0 ≡ c
    unfolding w
    here_is = ap (λ (l : List ℕ). get_or l (length u) 0) (sym sh.padded) ∙ get_or_at u c v 0 (length u) refl

    inside : length u < length (pad p w)
    unfolding w
    inside = omega (arith, ap length sh.padded, length-append u (c ∷ v))

    before_is : (i : ℕ) → length u ≡ suc i → last_of u ≡ get_or (pad p w) i 0
    unfolding w
    before_is i e = before u (c ∷ v) i e ∙ ap (λ (l : List ℕ). get_or l i 0) sh.padded

    -- A character of the alphabet.
    letter-fits : length u < length w → fits p least allows (length u) (last_of u) c ≡ true
    unfolding fits w
    letter-fits h =
        let e : get_or w (length u) 0 ≡ c = sym (pad-letter p w (length u) h) ∙ here_is in
        let a : value c < 64 = subst (λ (x : ℕ). value x < 64) e (known_at w sh.all_known (length u) h) in
        let b : eqb (last_of u) pad_character ≡ false = not_padding (length u) refl in
        let f : fewest_bytes (suc (length u)) (value c) ≤ length w * 3 / 4 =
        fewest_within (suc (length u)) (value c) (length w) (value (last_of w)) h (λ s. ap value (sym e ∙ ap (λ (k : ℕ). get_or (0 ∷ w) k 0) s)) sh.whole in
        or_left (ltb (value c) 64 && not (eqb (last_of u) pad_character) && allows (fewest_bytes (suc (length u)) (value c))) _
        (rw (lt-ltb (value c) 64 a, b) (down (fewest_bytes (suc (length u)) (value c)) (length w * 3 / 4) f sh.allowed))
      where
        not_padding : (n : ℕ) → length u ≡ n → eqb (last_of u) pad_character ≡ false
        not_padding zero e = rw e
        not_padding (suc i) e =
            let g : last_of u ≡ get_or w i 0 = before_is i e ∙ pad-letter p w i (omega arith) in
            ne_eqb (last_of u) pad_character (λ q. no_padding w sh.all_known i (sym g ∙ q))

    same_last : (n : ℕ) → length u ≡ n → length w ≡ n → last_of u ≡ last_of w
    unfolding w
    same_last zero e f = ap (λ (k : ℕ). get_or (0 ∷ u) k 0) e ∙ sym (ap (λ (k : ℕ). get_or (0 ∷ w) k 0) f)
    same_last (suc i) e f = before_is i e ∙ pad-letter p w i (omega arith) ∙ sym (ap (λ (k : ℕ). get_or (0 ∷ w) k 0) f)

    after_letters : length u ≡ suc (length w) → last_of u ≡ pad_character
    unfolding w
    after_letters e = before_is (length w) e ∙ (pad-behind p w (length w) (omega arith) (omega (arith, inside))).1

    -- Padding.
    which_padding : length w ≤ length u → length u < (length w + 3) / 4 * 4 → pad_fits least (length u) (last_of u) ≡ true
    unfolding w
    which_padding h k =
        let m = sh.enough in
        four_ways (length w)
        (λ r. absurd (omega (arith, round_none (length w) r)))
        (λ r. absurd (sh.whole.one r))
        (λ r. let q = round_more (length w) 2 r (omega arith) in either (length u) (length w)
        (λ e. third_fits least (length u) (last_of u) (omega arith) (ap (λ (x : ℕ). value x % 16) (same_last (length w) e refl) ∙ sh.whole.two r) (omega arith))
        (λ e. after-pad-fits least (length u) (last_of u) (omega arith) (after_letters (omega arith))))
        (λ r. let q = round_more (length w) 3 r (omega arith) in
        fourth_fits least (length u) (last_of u) (omega arith) (ap (λ (x : ℕ). value x % 4) (same_last (length w) (omega arith) refl) ∙ sh.whole.three r) (omega arith))

    padding-fits : length w ≤ length u → fits p least allows (length u) (last_of u) c ≡ true
    unfolding fits w
    padding-fits h =
        let q = pad-behind p w (length u) h inside in
        let e : c ≡ pad_character = sym here_is ∙ q.1 in
        or_right (ltb (value c) 64 && not (eqb (last_of u) pad_character) && allows (fewest_bytes (suc (length u)) (value c))) _
        (rw (q.0, eq-eqb c pad_character e) (which_padding h q.2))

  -- A character that a text in question has after u fits there.
  pub fits_there : (u : List ℕ) (c : ℕ) (v : List ℕ) → within p least allows (u ++ c ∷ v) ≡ true → fits p least allows (length u) (last_of u) c ≡ true
  unfolding w
  fits_there u c v h =
      let sh = shape (u ++ c ∷ v) h in
      ⊎_elim (padding-fits u c v sh) (letter-fits u c v sh) (le_or_lt (length sh.letters) (length u))

  -- ---- what fits has a continuation

  -- The characters u, after the walk let them pass.
  pub data Walked (u : List ℕ) : Type 0 where
    letters : known u ≡ true → allows (fewest_bytes (length u) (value (last_of u))) ≡ true → Walked u
    half : p ≡ true → within p least allows (u ++ pad_character ∷ []) ≡ true → last_of u ≡ pad_character → Walked u
    ended : p ≡ true → within p least allows u ≡ true → last_of u ≡ pad_character → Walked u

  -- The cases in which a character fits.
  fit_cases : (i b c : ℕ) → fits p least allows i b c ≡ true
      → ((value c < 64) × (eqb b pad_character ≡ false) × (allows (fewest_bytes (suc i) (value c)) ≡ true)) ⊎ ((p ≡ true) × (c ≡ pad_character) × (pad_fits least i b ≡ true))
  unfolding fits
  fit_cases i b c h = ⊎_elim alpha other (or_true (ltb (value c) 64 && not (eqb b pad_character) && allows (fewest_bytes (suc i) (value c))) _ h)
    where
      alpha : (ltb (value c) 64 && not (eqb b pad_character) && allows (fewest_bytes (suc i) (value c))) ≡ true
          → ((value c < 64) × (eqb b pad_character ≡ false) × (allows (fewest_bytes (suc i) (value c)) ≡ true)) ⊎ ((p ≡ true) × (c ≡ pad_character) × (pad_fits least i b ≡ true))
      alpha k =
          let x = and_true (ltb (value c) 64 && not (eqb b pad_character)) (allows (fewest_bytes (suc i) (value c))) k in
          let y = and_true (ltb (value c) 64) (not (eqb b pad_character)) x.0 in
          inl (ltb-true (value c) 64 y.0, not-true (eqb b pad_character) y.1, x.1)

      other : (p && eqb c pad_character && pad_fits least i b) ≡ true
          → ((value c < 64) × (eqb b pad_character ≡ false) × (allows (fewest_bytes (suc i) (value c)) ≡ true)) ⊎ ((p ≡ true) × (c ≡ pad_character) × (pad_fits least i b ≡ true))
      other k =
          let x = and_true (p && eqb c pad_character) (pad_fits least i b) k in
          let y = and_true p (eqb c pad_character) x.0 in
          inr (y.0, eqb-true c pad_character y.1, x.1)

  length-snoc : (u : List ℕ) (c : ℕ) → length (u ++ c ∷ []) ≡ suc (length u)
  length-snoc u c = omega (arith, length-append u (c ∷ []))

  known_one : (c : ℕ) → value c < 64 → known (c ∷ []) ≡ true
  unfolding known
  known_one c h = rw (lt-ltb (value c) 64 h)

  -- One letter more.
  one_letter : (u : List ℕ) (c : ℕ) → known u ≡ true → value c < 64 → allows (fewest_bytes (suc (length u)) (value c)) ≡ true → Walked (u ++ c ∷ [])
  one_letter u c k h a = letters (known-append u (c ∷ []) k (known_one c h)) (rw (last_snoc 0 u c, length-snoc u c) a)

  last_known : (u : List ℕ) → known u ≡ true → last_of u ≡ pad_character → ⊥
  last_known [] k e = omega arith
  last_known (c ∷ u) k e = no_padding (c ∷ u) k (length u) e

  -- The first '='.
  first-padding : (u : List ℕ) → p ≡ true → known u ≡ true → allows (fewest_bytes (length u) (value (last_of u))) ≡ true → pad_fits least (length u) (last_of u) ≡ true
      → Walked (u ++ pad_character ∷ [])
  first-padding u q k a h = ⊎_elim third fourth (pad_cases least (length u) (last_of u) h)
    where
      third : (length u % 4 ≡ 2) × (value (last_of u) % 16 ≡ 0) × (least ≤ length u / 4 * 3 + 1) → Walked (u ++ pad_character ∷ [])
      third f =
          let z : Closes (length u) (value (last_of u)) = record { one = λ e. omega arith; two = λ e. f.1; three = λ e. absurd (omega arith) } in
          let g : fewest_bytes (length u) (value (last_of u)) ≡ length u * 3 / 4 = fewest_closed (length u) (value (last_of u)) z in
          let e : pad p u ≡ (u ++ pad_character ∷ []) ++ pad_character ∷ [] = ap (λ (b : Bool). pad b u) q ∙ pad-two u f.0 in
          half q (rw (← e) (shaped u k z (omega arith) (rw g at a))) (last_snoc 0 u pad_character)

      fourth : ((length u % 4 ≡ 3) × (last_of u ≡ pad_character)) ⊎ ((length u % 4 ≡ 3) × (value (last_of u) % 4 ≡ 0) × (least ≤ length u / 4 * 3 + 2)) → Walked (u ++ pad_character ∷ [])
      fourth (inl f) = absurd (last_known u k f.1)
      fourth (inr f) =
          let z : Closes (length u) (value (last_of u)) = record { one = λ e. omega arith; two = λ e. absurd (omega arith); three = λ e. f.1 } in
          let g : fewest_bytes (length u) (value (last_of u)) ≡ length u * 3 / 4 = fewest_closed (length u) (value (last_of u)) z in
          let e : pad p u ≡ u ++ pad_character ∷ [] = ap (λ (b : Bool). pad b u) q ∙ pad_three u f.0 in
          ended q (rw (← e) (shaped u k z (omega arith) (rw g at a))) (last_snoc 0 u pad_character)

  -- A whole padded text has a multiple of four characters.
  whole_four : (s : List ℕ) → p ≡ true → within p least allows s ≡ true → length s % 4 ≡ 0
  whole_four s q h =
      let sh = shape s h in
      let e : length s ≡ (length sh.letters + 3) / 4 * 4 = ap length (sh.padded ∙ ap (λ (b : Bool). pad b sh.letters) q) ∙ length-pad sh.letters in
      omega arith

  -- One character more.
  pub step : (u : List ℕ) (c : ℕ) → Walked u → fits p least allows (length u) (last_of u) c ≡ true → Walked (u ++ c ∷ [])
  step u c (letters k a) h =
      ⊎_elim
      (λ f. one_letter u c k f.0 f.2)
      (λ f. rw f.1 (first-padding u f.0 k a f.2))
      (fit_cases (length u) (last_of u) c h)
  step u c (half q r l) h =
      ⊎_elim
      (λ f. absurd (true_false (sym (eq-eqb (last_of u) pad_character l) ∙ f.1)))
      (λ f. ended q (rw f.1 r) (last_snoc 0 u c ∙ f.1))
      (fit_cases (length u) (last_of u) c h)
  step u c (ended q r l) h =
      ⊎_elim
      (λ f. absurd (true_false (sym (eq-eqb (last_of u) pad_character l) ∙ f.1)))
      (λ f. absurd (let m = whole_four u q r in ⊎_elim (λ g. omega (arith, g.0)) (⊎_elim (λ g. omega (arith, g.0)) (λ g. omega (arith, g.0))) (pad_cases least (length u) (last_of u) f.2)))
      (fit_cases (length u) (last_of u) c h)

  -- ---- a continuation

  module _ (some : allows least ≡ true) where
    -- Characters of the alphabet are filled up with 'A' to as many bytes as are needed.
    filled_up : (u : List ℕ) (b : ℕ) → known u ≡ true → fewest_bytes (length u) (value (last_of u)) ≤ b → least ≤ b → allows b ≡ true → Begins R u
    filled_up u b k f l a = go ((b * 4 + 2) / 3 - length u) (let r = room_for (length u) (value (last_of u)) b f in omega arith)
      where
        made : (n : ℕ) → length u + n ≡ (b * 4 + 2) / 3 → Closes (length (u ++ replicate n letter_a)) (value (last_of (u ++ replicate n letter_a)))
            → Begins R u
        made n e z =
            let x : List ℕ = u ++ replicate n letter_a in
            let m : length x ≡ (b * 4 + 2) / 3 = length-append u (replicate n letter_a) ∙ ap (λ (i : ℕ). length u + i) (length-replicate n letter_a) ∙ e in
            let y : length x * 3 / 4 ≡ b = omega arith in
            let g : within p least allows (pad p x) ≡ true = shaped x (known-append u (replicate n letter_a) k (known_as n)) z (omega arith) (rw y a) in
            let q = pad_more p x in
            (replicate n letter_a ++ q.0, rw (← append_assoc, ← q.1) g)

        go : (n : ℕ) → length u + n ≡ (b * 4 + 2) / 3 → Begins R u
        go zero e = made zero e (rw append-nil (fills_it (length u) (value (last_of u)) b f (omega arith)))
        go (suc n) e =
            let m : length (u ++ replicate (suc n) letter_a) ≡ (b * 4 + 2) / 3 =
            length-append u (replicate (suc n) letter_a) ∙ ap (λ (i : ℕ). length u + i) (length-replicate (suc n) letter_a) ∙ e in
            made (suc n) e (rw last_as (record { one = λ r. no_one b _ m r; two = λ r. ap (λ (x : ℕ). x % 16) value_a; three = λ r. ap (λ (x : ℕ). x % 4) value_a }))

    pub begins : (u : List ℕ) → Walked u → Begins R u
    begins u (letters k a) =
        ⊎_elim
        (λ h. filled_up u least k h (omega arith) some)
        (λ h. filled_up u (fewest_bytes (length u) (value (last_of u))) k (omega arith) (omega arith) a)
        (le_or_lt (fewest_bytes (length u) (value (last_of u))) least)
    begins u (half q r l) = (pad_character ∷ [], r)
    begins u (ended q r l) = ([], rw append-nil r)

    -- ---- the walk

    -- The walk through u and then t stops at j.
    pub record Stops (t : List ℕ) (j : ℕ) : Type 0 where
      pub inside : j ≤ length t
      pub before : Begins R (take j t)
      pub here : j < length t → Begins R (take (suc j) t) → ⊥

    walk : (t u : List ℕ) (i b : ℕ) → length u ≡ i → last_of u ≡ b → Walked u → Stops (u ++ t) (stop_from p least allows i b t)
    unfolding stop_from
    walk [] u i b e l g =
        rw append-nil
        (record {
          inside = omega arith;
          before = (let f : take i u ≡ u = ap (λ (n : ℕ). take n u) (sym e) ∙ take-length u in rw f (begins u g));
          here = λ h. absurd (omega arith);
        })
    walk (c ∷ t) u i b e l a = go (fits p least allows i b c) refl (walk t (u ++ c ∷ []) (suc i) c (length-snoc u c ∙ ap suc e) (last_snoc 0 u c))
      where
        go : (x : Bool) → fits p least allows i b c ≡ x → (Walked (u ++ c ∷ []) → Stops ((u ++ c ∷ []) ++ t) (stop_from p least allows (suc i) c t))
            → Stops (u ++ c ∷ t) (cond x (stop_from p least allows (suc i) c t) i)
        go true f k = rw append_assoc at (k (step u c a (rw (l, e) f)))
        go false f k =
            record {
              inside = omega (arith, length-append u (c ∷ t));
              before = rw (take_at u (c ∷ t) i e) (begins u a);
              here = λ h g. halts g;
            }
          where
            halts : Begins R (take (suc i) (u ++ c ∷ t)) → ⊥
            halts g =
                let q : take (suc i) (u ++ c ∷ t) ≡ u ++ c ∷ [] = rw (← append_assoc u (c ∷ []) t) (take_at (u ++ c ∷ []) t (suc i) (length-snoc u c ∙ ap suc e)) in
                let r : within p least allows (u ++ c ∷ g.0) ≡ true = rw append_assoc at (rw q at g.1) in
                true_false (sym (fits_there u c g.0 r) ∙ rw (l, e) f)

    pub walk_stops : (t : List ℕ) → Stops t (stop p least allows t)
    unfolding stop known
    walk_stops t =
        let f : fewest_bytes 0 (value 0) ≡ 0 = fewest_none 0 (value 0) refl in
        walk t [] 0 0 refl refl (letters refl (down (fewest_bytes 0 (value 0)) least (omega arith) some))
