-- The rows of the opening, by what the label says.
-- Assumes nothing.
use Prim.Native.Nat.{ℕ}
use mathlib.Core.Path.{◌≡◌, refl, sym, ap, ap₂, ◌∙◌}
use mathlib.Core.Bool.{Bool, true, false, cond, not, and-false}
use mathlib.Core.List.{List, [], ◌∷◌}
use mathlib.Core.Option.{none, some}
use lib.Dec.{eqb}
use lib.ListN.{length}
use borrow.Author.Tests.{eq-eqb, ne_eqb}
use Rattle.octets.specs.Bytes.{same}
use Rattle.octets.specs.Rows.{done, refused}
use Rattle.octets.proofs.Rows.{first_answers, none_answers}
use Rattle.threshold.specs.Threshold.{threshold_right}
use Rattle.hmac.specs.Hmac.{hmac_sha256}
use Rattle.label_spec.specs.Label.{raw_key_size, hs256, combo_number, Reading, reading, said, is_eight, is_threshold, three_parts, segments_right, row13, unreadable, open_label_rows, open_label}
use Rattle.label_spec.proofs.Broken.{unbroken}
use Rattle.std.proofs.Common.{Some}
use Rattle.label.specs.Says.{NumberIs, threshold_in}

-- No number stands for one that is no threshold, since 0 is none.
no_threshold : (n : Bool × ℕ) → threshold_in n ≡ 0 → is_threshold n ≡ false
unfolding threshold_right
no_threshold n e = go (is_threshold n) refl e
  where
    go : (x : Bool) → is_threshold n ≡ x → cond x n.1 0 ≡ 0 → is_threshold n ≡ false
    go true p e = ap (λ (k : ℕ). is_threshold (n.0, k)) e ∙ and-false (not n.0)
    go false p e = p

some_threshold : (n : Bool × ℕ) → (threshold_in n ≡ 0 → ⊥) → (is_threshold n ≡ true) × (threshold_in n ≡ n.1)
some_threshold n h = go (is_threshold n) refl h
  where
    go : (x : Bool) → is_threshold n ≡ x → (cond x n.1 0 ≡ 0 → ⊥) → (is_threshold n ≡ true) × (cond x n.1 0 ≡ n.1)
    go true p h = (p, refl)
    go false p h = absurd (h refl)

-- Without a place, either way.
neither : (x : Bool) → row13 (cond x none none) ≡ refused 13
neither true = refl
neither false = refl

module _ (key l : List ℕ) where
  -- What the opening returns on success.
  abbrev returned : List ℕ
  returned = combo_number (said l).combo ∷ (said l).threshold.1 ∷ []

  pub row_1 : (length key ≡ raw_key_size → ⊥) → refused 1 ≡ open_label key l
  unfolding open_label open_label_rows
  row_1 n = sym (first_answers (open_label_rows key l) (done returned) 0 (rw (ne_eqb (length key) raw_key_size n)))

  module _ (k : length key ≡ raw_key_size) where
    key_right : not (eqb (length key) raw_key_size) ≡ false
    key_right = rw (eq-eqb (length key) raw_key_size k)

    row_13 : reading l ≡ none → unreadable l ≡ open_label key l
    unfolding open_label open_label_rows
    row_13 e = sym (first_answers (open_label_rows key l) (done returned) 1 (key_right, rw e))

    pub wrong : segments_right l ≡ false → unreadable l ≡ open_label key l
    unfolding reading
    wrong e = row_13 (rw e)

    -- The segments are right, and nothing is said.
    pub unread : segments_right l ≡ true → reading l ≡ none → refused 13 ≡ open_label key l
    unfolding unreadable
    unread h e =
        let z : unreadable l ≡ refused 13 = rw (unbroken l h) (neither (three_parts l)) in
        sym z ∙ row_13 e

    module _ (q : Reading) (e : reading l ≡ some q) where
      said_is : said l ≡ q
      unfolding said
      said_is = rw e

      pub row_14 : same q.alg hs256 ≡ false → refused 14 ≡ open_label key l
      unfolding open_label open_label_rows
      row_14 a = sym (first_answers (open_label_rows key l) (done returned) 2 (key_right, (rw e, rw (said_is, a))))

      module _ (a : same q.alg hs256 ≡ true) where
        pub row_15 : same (hmac_sha256 key q.signed) q.signature ≡ false → refused 15 ≡ open_label key l
        unfolding open_label open_label_rows
        row_15 s = sym (first_answers (open_label_rows key l) (done returned) 3 (key_right, (rw e, (rw (said_is, a), rw (said_is, s)))))

        module _ (s : same (hmac_sha256 key q.signed) q.signature ≡ true) where
          pub row_16 : is_eight q.format ≡ false → refused 16 ≡ open_label key l
          unfolding open_label open_label_rows
          row_16 f = sym (first_answers (open_label_rows key l) (done returned) 4 (key_right, (rw e, (rw (said_is, a), (rw (said_is, s), rw (said_is, f))))))

          module _ (f : is_eight q.format ≡ true) where
            pub row_17 : combo_number q.combo ≡ 0 → refused 17 ≡ open_label key l
            unfolding open_label open_label_rows
            row_17 c = sym (first_answers (open_label_rows key l) (done returned) 5 (key_right, (rw e, (rw (said_is, a), (rw (said_is, s), (rw (said_is, f), rw (said_is, c)))))))

            module _ (n : ℕ) (c : NumberIs (Some n) (combo_number q.combo)) where
              no_17 : eqb (combo_number q.combo) 0 ≡ false
              no_17 = ne_eqb (combo_number q.combo) 0 c.1

              pub row_18 : threshold_in q.threshold ≡ 0 → refused 18 ≡ open_label key l
              unfolding open_label open_label_rows
              row_18 t =
                  sym (first_answers (open_label_rows key l) (done returned) 6 (key_right, (rw e, (rw (said_is, a), (rw (said_is, s), (rw (said_is, f), (rw (said_is, no_17), rw (said_is, no_threshold q.threshold t))))))))

              pub opened : (m : ℕ) → NumberIs (Some m) (threshold_in q.threshold) → done (n ∷ m ∷ []) ≡ open_label key l
              unfolding open_label open_label_rows
              opened m t =
                  let h = some_threshold q.threshold t.1 in
                  let z : combo_number (said l).combo ≡ n = ap (λ (r : Reading). combo_number r.combo) said_is ∙ c.0 in
                  let w : (said l).threshold.1 ≡ m = ap (λ (r : Reading). r.threshold.1) said_is ∙ sym h.1 ∙ t.0 in
                  sym
                  (none_answers (open_label_rows key l) (done returned) (key_right, (rw e, (rw (said_is, a), (rw (said_is, s), (rw (said_is, f), (rw (said_is, no_17), (rw (said_is, h.0), tt)))))))
                  ∙ ap₂ (λ (i j : ℕ). done (i ∷ j ∷ [])) z w)
