-- Names and paths are written exactly where they fit, and open exactly where they were written; and moved names.
-- Assumes nothing.
use Prim.Native.Nat.{ℕ, ◌≤◌, ◌<◌}
use mathlib.Core.Path.{◌≡◌, refl, sym, ap, ap₂, ◌∙◌, subst}
use mathlib.Core.Bool.{Bool, true, false, not, ◌||◌, cond}
use mathlib.Core.List.{List, [], ◌∷◌}
use native.Mathlib.Omega.{arith}
use lib.ListN.{length}
use lib.Dec.{ltb, lit≤}
use borrow.Author.Tests.{le-leb, lt-leb, le-ltb, eqb-false, not-true}
use Rattle.octets.specs.Bytes.{Bytes, filled, same}
use Rattle.octets.specs.Rows.{Outcome, done, refused, answer, number, End, ended, Succeeded}
use Rattle.octets.proofs.Equality.{true_false, same_self}
use Rattle.octets.proofs.Rows.{Met, met_exactly, succeeds_exactly, none_ends}
use Rattle.aes_spec.specs.Cipher.{aes}
use Rattle.siv.specs.Siv.{s2v}
use Rattle.frame.specs.Frame.{master_keys_right}
use Rattle.frame.proofs.KeySizes.{keys_exactly}
use Rattle.threshold.specs.Threshold.{threshold_right, ThresholdFits}
use Rattle.threshold.proofs.Exactly.{threshold_exactly}
use Rattle.utf8.specs.ProperText.{proper_text, ProperText}
use Rattle.utf8.proofs.ProperText.{encoding_bytes, proper_text_exactly}
use Rattle.name_spec.specs.Names.{id_right, path, full_name, full_length, hash_name, text_right, name_length, name_of, name_good}
use Rattle.name_spec.specs.Calls.{path_length, written_lengths, name_ended, dir_path_rows, dir_path, write_name_rows, write_name, open_text_rows, open_text, open_name_rows, open_name, open_long_name_rows, open_long_name}
use Rattle.name_spec.specs.Rules.{NameSize, NameFits, TextForm, NameRoom, dir_path_rules, write_name_rules, open_name_rules, open_long_name_rules}
use Rattle.name_spec.specs.Statements.{Directory, NotText, MovesTo, PathWritesExactly, NameWritesExactly, NameWrittenOpens, NameOpensExactly, LongNameOpensExactly, NotTextExactly, MovedNameExactly, OneName}
use Rattle.name_spec.proofs.Texts.{length-path, length_hash, length-full, length-name, full-length, full-right, full-name, full-good, name-size, name-bytes, was_full}
use Rattle.name_spec.proofs.Ends.{name_ends, plain_by_text, long_by_text, plain-written, long_written}
use Rattle.name_spec.proofs.Rules.{id_exactly, text_exactly, path_matches, write_matches, open_matches, open_long_matches}

-- Two ends with different rows are not one.
apart : {e : End} {o p : Outcome} {x y : List ℕ} → e ≡ ended o x → e ≡ ended p y → (number o ≡ number p → ⊥) → ⊥
apart a b n = n (ap (λ (e : End). number e.outcome) (sym a ∙ b))

-- The end of an opener by two tests: whether the synthetic IV matches, and whether the bytes are proper text.
abbrev by_tests : Bool → Bool → List ℕ → List ℕ → End
by_tests matches proper name out = cond matches (cond proper (ended (done (length name ∷ [])) (filled name (length name) out)) (ended (refused 3) out)) (ended (refused 12) out)

not_proper : (name : List ℕ) → (ProperText name → ⊥) → proper_text name ≡ false
not_proper name n = iff_false (proper_text name) (λ e. n ((proper_text_exactly name).0 e))
  where
    iff_false : (b : Bool) → (b ≡ true → ⊥) → b ≡ false
    iff_false true n = absurd (n refl)
    iff_false false n = refl

decides : (matches proper : Bool) (name out : List ℕ) (e : End) → proper_text name ≡ proper → e ≡ by_tests matches proper name out → MovesTo matches name out e
decides true true name out e q g =
    let text = (proper_text_exactly name).0 q in (
      (λ x. absurd (apart g x (eqb-false 0 12 refl)), λ x. absurd (true_false x)),
      (λ x. absurd (apart g x (eqb-false 0 3 refl)), λ x. absurd (x.1 text)),
      (λ x. (refl, text), λ x. g),
    )
decides true false name out e q g =
    let no : ProperText name → ⊥ = λ t. true_false (sym ((proper_text_exactly name).1 t) ∙ q) in (
      (λ x. absurd (apart g x (eqb-false 3 12 refl)), λ x. absurd (true_false x)),
      (λ x. (refl, no), λ x. g),
      (λ x. absurd (apart g x (eqb-false 3 0 refl)), λ x. absurd (no x.1)),
    )
decides false proper name out e q g = (
  (λ x. refl, λ x. g),
  (λ x. absurd (apart g x (eqb-false 12 3 refl)), λ x. absurd (true_false (sym x.0))),
  (λ x. absurd (apart g x (eqb-false 12 0 refl)), λ x. absurd (true_false (sym x.0))),
)

-- ---- the full name of some bytes, in the directory of the call or moved there from another

module _ (threshold : ℕ) (limits : ThresholdFits threshold) (enc mac id from name out : List ℕ) (d : Directory enc mac id) (size : NameSize name) (bytes : Bytes name) (room : length name ≤ length out) where
  length_of : name_length (full_name enc mac from name) ≡ length name
  length_of = full-length enc mac from name d.enc-bytes d.mac-bytes bytes

  name_of_lem : name_of enc (full_name enc mac from name) ≡ name
  name_of_lem = full-name enc mac from name d.enc-bytes d.mac-bytes bytes

  keyed : master_keys_right enc mac ≡ true
  keyed = (keys_exactly enc mac).1 d.keys

  within : threshold_right threshold ≡ true
  within = (threshold_exactly threshold).1 limits

  placed : id_right id ≡ true
  placed = (id_exactly id).1 d.id_fits

  right : text_right (full_name enc mac from name) ≡ true
  right = full-right enc mac from name d.enc-bytes d.mac-bytes bytes size

  roomy : ltb (length out) (name_length (full_name enc mac from name)) ≡ false
  roomy = le-ltb (length out) (name_length (full_name enc mac from name)) (omega (arith, length_of, room))

  -- The last rows, by the two tests.
  text-end : (matches proper : Bool) → name_good enc mac id (full_name enc mac from name) ≡ matches → proper_text name ≡ proper
      → open_text enc mac id (full_name enc mac from name) out ≡ by_tests matches proper name out
  unfolding open_text open_text_rows answer
  text-end true true e q = rw (length_of, name_of_lem, e, q)
  text-end true false e q = rw (name_of_lem, e, q)
  text-end false proper e q = rw e

  -- No row before them applies.
  plain_end : (matches proper : Bool) → name_good enc mac id (full_name enc mac from name) ≡ matches → proper_text name ≡ proper → length (full_name enc mac from name) ≤ threshold
      → open_name threshold enc mac id (full_name enc mac from name) out ≡ by_tests matches proper name out
  plain_end matches proper e q h =
      let f = full_name enc mac from name in
      plain_by_text threshold enc mac id within keyed placed f out (ap₂ (λ (a b : Bool). not a || not b) right (le-leb (length f) threshold h)) roomy ∙ text-end matches proper e q

  long_end : (matches proper : Bool) → name_good enc mac id (full_name enc mac from name) ≡ matches → proper_text name ≡ proper → threshold < length (full_name enc mac from name)
      → open_long_name threshold enc mac id (hash_name (full_name enc mac from name)) (full_name enc mac from name) out ≡ by_tests matches proper name out
  long_end matches proper e q h =
      let f = full_name enc mac from name in
      long_by_text threshold enc mac id within keyed placed (hash_name f) f out right roomy (ap₂ (λ (a b : Bool). a || not b) (lt-leb (length f) threshold h) (same_self (hash_name f))) ∙ text-end matches proper e q

pub moved_name_exactly : (threshold : ℕ) (enc mac id : List ℕ) → MovedNameExactly threshold enc mac id
moved_name_exactly threshold enc mac id from name out limits d size bytes room =
    let f = full_name enc mac from name in
    let matches = same (s2v (aes 8 mac) (id ∷ name ∷ [])) (s2v (aes 8 mac) (from ∷ name ∷ [])) in
    let g : name_good enc mac id f ≡ matches = full-good enc mac from name d.enc-bytes d.mac-bytes bytes id in (
      λ h. decides matches (proper_text name) name out _ refl (plain_end threshold limits enc mac id from name out d size bytes room matches (proper_text name) g refl h),
      λ h. decides matches (proper_text name) name out _ refl (long_end threshold limits enc mac id from name out d size bytes room matches (proper_text name) g refl h),
    )

-- ---- what opens is what is written

module _ (enc mac id : List ℕ) (d : Directory enc mac id) (name : List ℕ) (bytes : Bytes name) where
  -- In its own directory a name's synthetic IV matches.
  good : name_good enc mac id (full_name enc mac id name) ≡ true
  good = full-good enc mac id name d.enc-bytes d.mac-bytes bytes id ∙ same_self (s2v (aes 8 mac) (id ∷ name ∷ []))

  module _ (threshold : ℕ) (limits : ThresholdFits threshold) (size : NameSize name) (out : List ℕ) where
    plain_ends : (proper : Bool) → proper_text name ≡ proper → length name ≤ length out → length (full_name enc mac id name) ≤ threshold
        → open_name threshold enc mac id (full_name enc mac id name) out ≡ by_tests true proper name out
    plain_ends proper q room h = plain_end threshold limits enc mac id id name out d size bytes room true proper good q h

    long_ends : (proper : Bool) → proper_text name ≡ proper → length name ≤ length out → threshold < length (full_name enc mac id name)
        → open_long_name threshold enc mac id (hash_name (full_name enc mac id name)) (full_name enc mac id name) out ≡ by_tests true proper name out
    long_ends proper q room h = long_end threshold limits enc mac id id name out d size bytes room true proper good q h

  module _ (size : NameSize name) (out : List ℕ) where
    form_of : (t : List ℕ) → full_name enc mac id name ≡ t → TextForm t
    form_of t e = (text_exactly t).0 (ap text_right (sym e) ∙ full-right enc mac id name d.enc-bytes d.mac-bytes bytes size)

    -- The room that the text asks for is that of the name.
    room_of : (t : List ℕ) → full_name enc mac id name ≡ t → name_length t ≤ length out → length name ≤ length out
    room_of t e room = omega (arith, ap name_length e, full-length enc mac id name d.enc-bytes d.mac-bytes bytes, room)

-- A name is a byte string, and passes the test.
bytes_of : (name : List ℕ) → NameFits name → Bytes name
bytes_of name fits = encoding_bytes name fits.1.0

proper_of : (name : List ℕ) → NameFits name → proper_text name ≡ true
proper_of name fits = (proper_text_exactly name).1 fits.1

pub name-opens_exactly : (threshold : ℕ) (enc mac id : List ℕ) → NameOpensExactly threshold enc mac id
unfolding open_name open_name_rows open_text_rows
name-opens_exactly threshold enc mac id t out d room = ((was_written, λ w. (length w.1.0 ∷ [], ap (λ (e : End). e.outcome) (opens w.1.0 w.0 w.1.1 w.1.2 w.1.3))), opens)
  where
    opens : (name : List ℕ) → ThresholdFits threshold → NameFits name → full_name enc mac id name ≡ t → length t ≤ threshold → open_name threshold enc mac id t out ≡ ended (done (length name ∷ [])) (filled name (length name) out)
    opens name limits fits e h =
        let bytes = bytes_of name fits in
        ap (λ (x : List ℕ). open_name threshold enc mac id x out) (sym e)
        ∙ plain_ends enc mac id d name bytes threshold limits fits.0 out true (proper_of name fits) (room_of enc mac id d name bytes fits.0 out t e (room (form_of enc mac id d name bytes fits.0 out t e) h))
        (omega (arith, ap length e, h))

    was_written : Succeeded (open_name threshold enc mac id t out) → ThresholdFits threshold × ((name : List ℕ) × NameFits name × (full_name enc mac id name ≡ t) × (length t ≤ threshold))
    was_written s =
        let met = (succeeds_exactly (open_name_rows threshold enc mac id t (length out)) (open_name_rules threshold enc mac id t (length out)) (open_matches threshold enc mac id t (length out)) refl (name_length t ∷ []) (filled (name_of enc t) (name_length t) out) out).0 s in
        let right = (text_exactly t).1 met.1.1.1.0.0 in
        let last = met.1.1.1.1.1 in
        (met.0, (name_of enc t, (name-size enc mac id t d.enc-bytes right, last.1.0), was_full enc mac id t d.enc-bytes right last.0, met.1.1.1.0.1))

pub long_name-opens_exactly : (threshold : ℕ) (enc mac id : List ℕ) → LongNameOpensExactly threshold enc mac id
unfolding open_long_name open_long_name_rows open_text_rows
long_name-opens_exactly threshold enc mac id s t out d room = ((was_written, λ w. (length w.1.0 ∷ [], ap (λ (e : End). e.outcome) (opens w.1.0 w.0 w.1.1 w.1.2 w.1.3 w.1.4))), opens)
  where
    opens : (name : List ℕ) → ThresholdFits threshold → NameFits name → full_name enc mac id name ≡ t → threshold < length t → s ≡ hash_name t
        → open_long_name threshold enc mac id s t out ≡ ended (done (length name ∷ [])) (filled name (length name) out)
    opens name limits fits e h q =
        let bytes = bytes_of name fits in
        ap₂ (λ (x y : List ℕ). open_long_name threshold enc mac id x y out) (q ∙ ap hash_name (sym e)) (sym e)
        ∙ long_ends enc mac id d name bytes threshold limits fits.0 out true (proper_of name fits) (room_of enc mac id d name bytes fits.0 out t e (room (form_of enc mac id d name bytes fits.0 out t e)))
        (omega (arith, ap length e, h))

    was_written : Succeeded (open_long_name threshold enc mac id s t out)
        → ThresholdFits threshold × ((name : List ℕ) × NameFits name × (full_name enc mac id name ≡ t) × (threshold < length t) × (s ≡ hash_name t))
    was_written e =
        let met = (succeeds_exactly (open_long_name_rows threshold enc mac id s t (length out)) (open_long_name_rules threshold enc mac id s t (length out)) (open_long_matches threshold enc mac id s t (length out)) refl (name_length t ∷ []) (filled (name_of enc t) (name_length t) out) out).0 e in
        let right = (text_exactly t).1 met.1.1.1.0 in
        let pair = met.1.1.1.1.1.0 in
        let last = met.1.1.1.1.1.1 in
        (met.0, (name_of enc t, (name-size enc mac id t d.enc-bytes right, last.1.0), was_full enc mac id t d.enc-bytes right last.0, pair.0, pair.1))

-- What is sealed in a text that gets row 3.
module _ (enc mac id t : List ℕ) (d : Directory enc mac id) where
  sealed-bytes : TextForm t → name_good enc mac id t ≡ true → not (proper_text (name_of enc t)) ≡ true → NotText (name_of enc t) × (full_name enc mac id (name_of enc t) ≡ t)
  sealed-bytes f g n =
      let right = (text_exactly t).1 f in (
        (
          name-size enc mac id t d.enc-bytes right,
          name-bytes enc mac id t d.enc-bytes right,
          λ p. true_false (sym ((proper_text_exactly (name_of enc t)).1 p) ∙ not-true _ n),
        ),
        was_full enc mac id t d.enc-bytes right g,
      )

pub not_text_exactly : (threshold : ℕ) (enc mac id : List ℕ) → NotTextExactly threshold enc mac id
unfolding open_name_rows open_long_name_rows open_text_rows
not_text_exactly threshold enc mac id = (
  λ t out d. (
    λ e.
        let f = (((name_ends threshold enc mac id).1 t out).0 6 (lit≤ tt)).0 e in
        let m = open_matches threshold enc mac id t (length out) in
        let text = m.2.2.2.1.0 f.1.1.1.0 in
        let w = sealed-bytes enc mac id t d text.0 (m.2.2.2.2.2.1.0 f.1.1.1.1.1.0) f.1.1.1.1.1.1 in
        let room = m.2.2.2.2.1.0 f.1.1.1.1.0 in
        (m.1.0 f.0, (name_of enc t, w.0, w.1, text.1, omega (arith, length-name enc t, room))),
    λ (limits, (name, n, e, h, room)).
        ap (λ (x : List ℕ). open_name threshold enc mac id x out) (sym e)
        ∙ plain_ends enc mac id d name n.1 threshold limits n.0 out false (not_proper name n.2) room (omega (arith, ap length e, h)),
  ),
  λ s t out d. (
    λ e.
        let f = (((name_ends threshold enc mac id).2 s t out).0 7 (lit≤ tt)).0 e in
        let m = open_long_matches threshold enc mac id s t (length out) in
        let pair = m.2.2.2.2.2.1.0 f.1.1.1.1.1.0 in
        let w = sealed-bytes enc mac id t d (m.2.2.2.1.0 f.1.1.1.0) (m.2.2.2.2.2.2.1.0 f.1.1.1.1.1.1.0) f.1.1.1.1.1.1.1 in
        let room = m.2.2.2.2.1.0 f.1.1.1.1.0 in
        (m.1.0 f.0, (name_of enc t, w.0, w.1, pair.0, omega (arith, length-name enc t, room), pair.1)),
    λ (limits, (name, n, e, h, room, q)).
        ap₂ (λ (x y : List ℕ). open_long_name threshold enc mac id x y out) (q ∙ ap hash_name (sym e)) (sym e)
        ∙ long_ends enc mac id d name n.1 threshold limits n.0 out false (not_proper name n.2) room (omega (arith, ap length e, h)),
  ),
)

pub one_name : OneName
one_name enc mac id other a b be bm ba bb e = sym (full-name enc mac id a be bm ba) ∙ ap (name_of enc) e ∙ full-name enc mac other b be bm bb

-- ---- what is written

pub path_writes_exactly : (enc mac id : List ℕ) → PathWritesExactly enc mac id
unfolding dir_path dir_path_rows
path_writes_exactly enc mac id out =
    let rows = dir_path_rows enc mac id (length out) in
    let rules = dir_path_rules enc mac id (length out) in
    let new = filled (path enc mac id) path_length out in
    let exact = succeeds_exactly rows rules (path_matches enc mac id (length out)) refl (path_length ∷ []) new out in (
      (λ s. let m = exact.0 s in (m.0, m.1.0, m.1.1.0), λ t. exact.1 (t.0, (t.1, (t.2, tt)))),
      λ keys fits room.
          none_ends rows (path_length ∷ []) new out ((met_exactly rows rules (path_matches enc mac id (length out))).1 (keys, (fits, (room, tt))))
          ∙ ap (λ (n : ℕ). ended (done (n ∷ [])) (filled (path enc mac id) n out)) (sym (length-path enc mac id)),
    )

pub name_writes_exactly : (threshold : ℕ) (enc mac id : List ℕ) → NameWritesExactly threshold enc mac id
unfolding write_name write_name_rows
name_writes_exactly threshold enc mac id name stored full =
    let l = length-full enc mac id name in
    let n = full_length (length name) in
    let exact = succeeds_exactly (write_name_rows threshold enc mac id name (length stored) (length full)) (write_name_rules threshold enc mac id name (length stored) (length full)) (write_matches threshold enc mac id name (length stored) (length full)) refl (written_lengths threshold n) stored stored in (
      λ s.
          let m = exact.0 s in
          (m.0, m.1.0, m.1.1.0, m.1.1.1.0, subst (NameRoom threshold (length stored) (length full)) (sym l) m.1.1.1.1.0),
      λ t. exact.1 (t.0, (t.1, (t.2, (t.3, (subst (NameRoom threshold (length stored) (length full)) l t.4, tt))))),
    )

pub name-written-opens : (threshold : ℕ) (enc mac id : List ℕ) → NameWrittenOpens threshold enc mac id
unfolding write_name_rows
name-written-opens threshold enc mac id name stored full into limits d fits room roomy =
    let f = full_name enc mac id name in
    let l = length-full enc mac id name in
    let met : Met (write_name_rules threshold enc mac id name (length stored) (length full)) = (limits, (d.keys, (d.id_fits, (fits, (subst (NameRoom threshold (length stored) (length full)) l room, tt))))) in
    let none = (met_exactly (write_name_rows threshold enc mac id name (length stored) (length full)) (write_name_rules threshold enc mac id name (length stored) (length full)) (write_matches threshold enc mac id name (length stored) (length full))).1 met in
    let done-so = ((name_ends threshold enc mac id).0 name stored full).1.1 none in
    let bytes = bytes_of name fits in (
      λ h. (
        done-so ∙ plain-written threshold enc mac id name stored full (length f) l h,
        plain_ends enc mac id d name bytes threshold limits fits.0 into true (proper_of name fits) roomy h,
      ),
      λ h. (
        done-so ∙ long_written threshold enc mac id name stored full (length f) l h
            ∙ ap (λ (n : ℕ). name_ended (done (n ∷ length f ∷ [])) (filled (hash_name f) n stored) (filled f (length f) full)) (sym (length_hash f)),
        long_ends enc mac id d name bytes threshold limits fits.0 into true (proper_of name fits) roomy h,
      ),
    )
