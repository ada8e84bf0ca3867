-- The rows of each call match its rules, and so the calls go by these, exactly.
-- Assumes nothing.
use Prim.Native.Nat.{ℕ, suc, ◌≤◌, ◌<◌}
use mathlib.Core.Path.{◌≡◌, refl, sym, ap, ◌∙◌}
use mathlib.Core.Bool.{Bool, true, false, not, ◌&&◌, ◌||◌, cond}
use mathlib.Core.Logic.{◌↔◌, ◌⊎◌, inl, inr, ⊎_elim}
use mathlib.Core.List.{List, [], ◌∷◌}
use native.Mathlib.Omega.{arith}
use lib.ListN.{length}
use lib.Dec.{ltb, lit≤}
use borrow.Author.Tests.{leb-true, leb-false, ltb-true, lt-ltb}
use Rattle.octets.specs.Bytes.{Below, filled, same}
use Rattle.octets.specs.Rows.{refused}
use Rattle.octets.proofs.Bytes.{below_nil, below_cons}
use Rattle.octets.proofs.Lists.{le_or_lt}
use Rattle.octets.proofs.Tests.{self, leb_exactly, leb_fails, ltb_fails, both_exactly, not_fails, or_fails, same_exactly}
use Rattle.octets.proofs.Rows.{Matches, ends_by}
use Rattle.frame.proofs.KeySizes.{keys_exactly}
use Rattle.utf8.specs.ProperText.{ProperText}
use Rattle.utf8.proofs.ProperText.{proper_text_exactly}
use Rattle.threshold.specs.Threshold.{ThresholdFits}
use Rattle.threshold.proofs.Exactly.{threshold_exactly}
use Rattle.name_spec.specs.Names.{name_limit, ascii, id_right, name_right, full_name, full_length, hash_name, short, stored_name, text_right, name_length, name_of, name_good}
use Rattle.name_spec.specs.Calls.{path_length, stored_length, written_lengths, lacks_room, dir_path_rows, dir_path, write_name_rows, write_name, open_text_rows, open_name_rows, open_name, open_long_name_rows, open_long_name}
use Rattle.name_spec.specs.Rules.{IdFits, NameFits, TextForm, NameRoom, dir_path_rules, write_name_rules, open_name_rules, open_long_name_rules}
use Rattle.name_spec.specs.Statements.{NameRowsExactly, NamesAscend, OutsideThreshold}
use Rattle.name_spec.proofs.Texts.{text_of, form}
use Rattle.name_spec.proofs.Ends.{name_ends_by}

-- ---- what the tests say

ascii_exactly : (s : List ℕ) → (ascii s ≡ true) ↔ Below 128 s
unfolding ascii
ascii_exactly [] = (λ e. below_nil (lit≤ tt), λ b. refl)
ascii_exactly (a ∷ s) =
    let both = both_exactly (below a) (ascii_exactly s) in
    (λ e. let p = both.0 e in below_cons p.0 p.1, λ b. both.1 (b.at 0, record { at = λ i. b.at (suc i) }))
  where
    below : (a : ℕ) → (ltb a 128 ≡ true) ↔ (a < 128)
    below a = (ltb-true a 128, lt-ltb a 128)

pub id_exactly : (id : List ℕ) → (id_right id ≡ true) ↔ IdFits id
unfolding id_right
id_exactly id = both_exactly (leb_exactly (length id) 36) (ascii_exactly id)

pub name_exactly : (name : List ℕ) → (name_right name ≡ true) ↔ NameFits name
unfolding name_right
name_exactly name = both_exactly (both_exactly (leb_exactly 1 (length name)) (leb_exactly (length name) name_limit)) (proper_text_exactly name)

pub text_exactly : (t : List ℕ) → (text_right t ≡ true) ↔ TextForm t
text_exactly t = (form t, λ f. ap text_right (sym f.4) ∙ text_of f.0 f.1 f.2 f.3)

room_exactly : (threshold storedRoom fullRoom n : ℕ) → (lacks_room threshold storedRoom fullRoom n ≡ false) ↔ NameRoom threshold storedRoom fullRoom n
room_exactly threshold s f n = go (short threshold n) refl
  where
    go : (b : Bool) → short threshold n ≡ b → ((ltb s (cond b n 32) || (not b && ltb f n)) ≡ false) ↔ NameRoom threshold s f n
    go true e =
        let plain = leb-true n threshold e in
        let both : ((ltb s n || false) ≡ false) ↔ ((n ≤ s) × (false ≡ false)) = or_fails (ltb s n) false (ltb_fails s n) (λ x. x, λ x. x) in
        (λ x. (λ h. (both.0 x).0, λ h. absurd (omega (arith, plain, h))), λ r. both.1 (r.0 plain, refl))
    go false e =
        let long = leb-false n threshold e in
        let both : ((ltb s 32 || ltb f n) ≡ false) ↔ ((32 ≤ s) × (n ≤ f)) = or_fails (ltb s 32) (ltb f n) (ltb_fails s 32) (ltb_fails f n) in
        (λ x. (λ h. absurd (omega (arith, long, h)), λ h. both.0 x), λ r. both.1 (r.1 long))

-- ---- the rows of each call

pub path_matches : (enc mac id : List ℕ) (room : ℕ) → Matches (dir_path_rows enc mac id room) (dir_path_rules enc mac id room)
unfolding dir_path_rows
path_matches enc mac id room = (refl, not_fails (keys_exactly enc mac), (refl, not_fails (id_exactly id), (refl, ltb_fails room 36, tt)))

module _ (threshold : ℕ) (enc mac id : List ℕ) where
  pub write_matches : (name : List ℕ) (storedRoom fullRoom : ℕ) → Matches (write_name_rows threshold enc mac id name storedRoom fullRoom) (write_name_rules threshold enc mac id name storedRoom fullRoom)
  unfolding write_name_rows
  write_matches name storedRoom fullRoom =
      (refl, not_fails (threshold_exactly threshold), (refl, not_fails (keys_exactly enc mac), (refl, not_fails (id_exactly id), (refl, not_fails (name_exactly name), (refl, room_exactly threshold storedRoom fullRoom (full_length (length name)), tt)))))

  -- the last rows of both openers
  last_matches : (t : List ℕ) → Matches (open_text_rows enc mac id t) ((name_good enc mac id t ≡ true, refused 12) ∷ (ProperText (name_of enc t), refused 3) ∷ [])
  unfolding open_text_rows
  last_matches t = (refl, not_fails (self (name_good enc mac id t)), (refl, not_fails (proper_text_exactly (name_of enc t)), tt))

  pub open_matches : (t : List ℕ) (room : ℕ) → Matches (open_name_rows threshold enc mac id t room) (open_name_rules threshold enc mac id t room)
  unfolding open_name_rows
  open_matches t room =
      let text = or_fails (not (text_right t)) (not (short threshold (length t))) (not_fails (text_exactly t)) (not_fails (leb_exactly (length t) threshold)) in
      (refl, not_fails (threshold_exactly threshold), (refl, not_fails (keys_exactly enc mac), (refl, not_fails (id_exactly id), (refl, text, (refl, ltb_fails room (name_length t), last_matches t)))))

  pub open_long_matches : (s t : List ℕ) (room : ℕ) → Matches (open_long_name_rows threshold enc mac id s t room) (open_long_name_rules threshold enc mac id s t room)
  unfolding open_long_name_rows
  open_long_matches s t room =
      let pair = or_fails (short threshold (length t)) (not (same s (hash_name t))) (leb_fails (length t) threshold) (not_fails (same_exactly s (hash_name t))) in
      (refl, not_fails (threshold_exactly threshold), (refl, not_fails (keys_exactly enc mac), (refl, not_fails (id_exactly id), (refl, not_fails (text_exactly t), (refl, ltb_fails room (name_length t), (refl, pair, last_matches t))))))

  pub name_rows_exactly : NameRowsExactly threshold enc mac id
  unfolding dir_path_rows dir_path write_name_rows write_name open_text_rows open_name_rows open_name open_long_name_rows open_long_name
  name_rows_exactly = (
    λ out. ends_by (dir_path_rows enc mac id (length out)) (dir_path_rules enc mac id (length out)) (path_matches enc mac id (length out)) refl (path_length ∷ []) _ out,
    λ name stored full.
        let f = full_name enc mac id name in
        let n = full_length (length name) in
        name_ends_by (write_name_rows threshold enc mac id name (length stored) (length full)) refl (written_lengths threshold n) (filled (stored_name threshold f) (stored_length threshold n) stored) (cond (short threshold n) full (filled f n full)) stored full
        (write_name_rules threshold enc mac id name (length stored) (length full)) (write_matches name (length stored) (length full)),
    λ t out. ends_by (open_name_rows threshold enc mac id t (length out)) (open_name_rules threshold enc mac id t (length out)) (open_matches t (length out)) refl (name_length t ∷ []) _ out,
    λ s t out. ends_by (open_long_name_rows threshold enc mac id s t (length out)) (open_long_name_rules threshold enc mac id s t (length out)) (open_long_matches s t (length out)) refl (name_length t ∷ []) _ out,
  )

  pub names_ascend : NamesAscend threshold enc mac id
  names_ascend = (λ room. refl, λ name storedRoom fullRoom. refl, λ t room. refl, λ s t room. refl)

  -- No threshold fits exactly when it is outside the limits.
  outside : (Unit {0} × (ThresholdFits threshold → ⊥)) ↔ ((threshold < 36) ⊎ (220 < threshold))
  outside = (
    λ u. ⊎_elim (λ (low : 36 ≤ threshold). ⊎_elim (λ (high : threshold ≤ 220). absurd (u.1 (low, high))) (λ (h : 220 < threshold). inr h) (le_or_lt threshold 220)) (λ (h : threshold < 36). inl h) (le_or_lt 36 threshold),
    λ o. (tt, λ f. ⊎_elim (λ (h : threshold < 36). omega (arith, h, f.0)) (λ (h : 220 < threshold). omega (arith, h, f.1)) o),
  )

  pub outside_threshold : OutsideThreshold threshold enc mac id
  outside_threshold =
      let rows = name_rows_exactly in (
        λ name stored full. both (rows.1 name stored full).0 outside,
        λ t out. both (rows.2 t out).0 outside,
        λ s t out. both (rows.3 s t out).0 outside,
      )
    where
      both : {A B C : Type 0} → A ↔ B → B ↔ C → A ↔ C
      both f g = (λ a. g.0 (f.0 a), λ c. f.1 (g.1 c))
