-- A label opens exactly when it is as `Opens` says.
-- Assumes nothing.
use Prim.Native.Nat.{ℕ}
use mathlib.Core.Path.{◌≡◌, refl, sym, ap, ap₂, ◌∙◌, subst}
use mathlib.Core.Bool.{Bool, false}
use mathlib.Core.List.{List, [], ◌∷◌}
use mathlib.Core.Logic.{◌⊎◌, inl, inr, ⊎_elim}
use Rattle.octets.specs.Rows.{done}
use Rattle.octets.proofs.Rows.{done_none, none_answers, Met, met_exactly}
use Rattle.hmac.specs.Hmac.{hmac_sha256}
use Rattle.hmac.proofs.Laws.{mac-bytes}
use Rattle.threshold.specs.Threshold.{ThresholdFits}
use Rattle.json_grammar.specs.Members.{text, whole}
use Rattle.label_spec.specs.Label.{hs256, siv_gcm_name, siv_ctrmac_name, combo_number, Reading, said, open_label_rows, open_label}
use Rattle.label_spec.specs.Rules.{signed_text, label_text, Reads, Unsigned, open_label_rules}
use Rattle.label_spec.specs.Statements.{Opens}
use Rattle.label_spec.proofs.Reading.{reads_exactly}
use Rattle.label_spec.proofs.Rows.{said_is, of_said, gcm_number, ctrmac_number, label_matches}
use Rattle.label_spec.proofs.Broken.{unreadable-number}

two-numbers : {a b c d : ℕ} → done (a ∷ b ∷ []) ≡ done (c ∷ d ∷ []) → (a ≡ c) × (b ≡ d)
two-numbers e = (cc, cc)

module _ (key l : List ℕ) where
  -- All that the rules ask for is met exactly where no row applies; and then this is the answer.
  answered : Met (open_label_rules key l) → open_label key l ≡ done (combo_number (said l).combo ∷ (said l).threshold.1 ∷ [])
  unfolding open_label
  answered m = none_answers (open_label_rows key l) _ ((met_exactly (open_label_rows key l) (open_label_rules key l) (label_matches key l)).1 m)

  all_met : (n : List ℕ) → open_label key l ≡ done n → Met (open_label_rules key l)
  unfolding open_label open_label_rows
  all_met n e = (met_exactly (open_label_rows key l) (open_label_rules key l) (label_matches key l)).0 (done_none (open_label_rows key l) _ n (rw (unreadable-number l)) e)

  -- ---- what opens

  met_opens : Met (open_label_rules key l) → Opens key l (said l).combo (said l).threshold.1
  met_opens m =
      let r : Reading = said l in
      let readable = m.1.0 in
      let k : Reads l r = of_said l (Reads l) (readable.0, readable.1, readable.1) in
      let alg : r.alg ≡ hs256 = of_said l (λ r. r.alg ≡ hs256) m.1.1.0 in
      let mac : hmac_sha256 key r.signed ≡ r.signature = of_said l (λ r. hmac_sha256 key r.signed ≡ r.signature) m.1.1.1.0 in
      let format = of_said l (λ r. Unsigned r.format (λ n. n ≡ 8)) m.1.1.1.1.0 in
      let threshold = of_said l (λ r. Unsigned r.threshold ThresholdFits) m.1.1.1.1.1.1.0 in
      record {
        key-size = m.0;
        size = k.size;
        header = k.header;
        payload = k.payload;
        header-bytes = k.header-bytes;
        payload-bytes = k.payload-bytes;
        label = ap (label_text k.header k.payload) (ap (hmac_sha256 key) k.signed ∙ mac) ∙ k.label;
        header-members = k.header-members;
        payload-members = k.payload-members;
        header_object = k.header_object;
        payload_object = k.payload_object;
        alg = k.alg ∙ ap (λ (x : List ℕ). text x ∷ []) alg;
        format = k.format ∙ ap₂ (λ (x : Bool) (y : ℕ). whole x y ∷ []) format.0 format.1;
        cipher-combo = k.combo;
        shortening_threshold = k.threshold ∙ ap (λ (x : Bool). whole x r.threshold.1 ∷ []) threshold.0;
        fits = threshold.1;
      }

  -- Under the combo's name, and the number that this has.
  abbrev OpensAs : ℕ → ℕ → Type 0
  OpensAs combo threshold = ((combo ≡ 1) × Opens key l siv_gcm_name threshold) ⊎ ((combo ≡ 2) × Opens key l siv_ctrmac_name threshold)

  met_opens_as : Met (open_label_rules key l) → OpensAs (combo_number (said l).combo) (said l).threshold.1
  met_opens_as m =
      let o = met_opens m in
      let named : (name : List ℕ) → (said l).combo ≡ name → Opens key l name (said l).threshold.1 = λ name e. subst (λ (x : List ℕ). Opens key l x (said l).threshold.1) e o in
      ⊎_elim
      (λ e. inl (ap combo_number e ∙ gcm_number, named siv_gcm_name e))
      (λ e. inr (ap combo_number e ∙ ctrmac_number, named siv_ctrmac_name e))
      (of_said l (λ r. (r.combo ≡ siv_gcm_name) ⊎ (r.combo ≡ siv_ctrmac_name)) m.1.1.1.1.1.0)

  pub opens : (combo threshold : ℕ) → open_label key l ≡ done (combo ∷ threshold ∷ []) → OpensAs combo threshold
  opens combo threshold e =
      let m = all_met (combo ∷ threshold ∷ []) e in
      let q = two-numbers (sym (answered m) ∙ e) in
      subst (λ (n : ℕ). OpensAs combo n) q.1 (subst (λ (n : ℕ). OpensAs n (said l).threshold.1) q.0 (met_opens_as m))

  -- ---- and that it opens

  module _ (name : List ℕ) (threshold : ℕ) (o : Opens key l name threshold) where
    -- What the label says.
    abbrev saying : Reading
    saying =
        record {
          alg = hs256;
          format = (false, 8);
          combo = name;
          threshold = (false, threshold);
          signed = signed_text o.header o.payload;
          signature = hmac_sha256 key (signed_text o.header o.payload);
        }

    says_so : Reads l saying
    says_so =
        record {
          size = o.size;
          header = o.header;
          payload = o.payload;
          header-bytes = o.header-bytes;
          payload-bytes = o.payload-bytes;
          signature-bytes = (mac-bytes key (signed_text o.header o.payload)).1;
          label = o.label;
          signed = refl;
          header-members = o.header-members;
          payload-members = o.payload-members;
          header_object = o.header_object;
          payload_object = o.payload_object;
          alg = o.alg;
          format = o.format;
          combo = o.cipher-combo;
          threshold = o.shortening_threshold;
        }

    opened_as : (name ≡ siv_gcm_name) ⊎ (name ≡ siv_ctrmac_name) → open_label key l ≡ done (combo_number name ∷ threshold ∷ [])
    opened_as c =
        let m : Met (open_label_rules key l) = (
          o.key-size,
          (
            (saying, says_so, tt),
            (
              (saying, says_so, refl),
              ((saying, says_so, refl), ((saying, says_so, (refl, refl)), ((saying, says_so, c), ((saying, says_so, (refl, o.fits)), tt)))),
            ),
          ),
        ) in
        let s : said l ≡ saying = said_is l saying ((reads_exactly l saying).1 says_so) in
        answered m ∙ ap (λ (r : Reading). done (combo_number r.combo ∷ r.threshold.1 ∷ [])) s

  pub opened : (combo threshold : ℕ) → OpensAs combo threshold → open_label key l ≡ done (combo ∷ threshold ∷ [])
  opened combo threshold =
      ⊎_elim
      (λ k. opened_as siv_gcm_name threshold k.1 (inl refl) ∙ ap (λ (n : ℕ). done (n ∷ threshold ∷ [])) (gcm_number ∙ sym k.0))
      (λ k. opened_as siv_ctrmac_name threshold k.1 (inr refl) ∙ ap (λ (n : ℕ). done (n ∷ threshold ∷ [])) (ctrmac_number ∙ sym k.0))
