-- The rows of the opening match its rules.
-- Assumes nothing.
use Prim.Native.Nat.{ℕ}
use mathlib.Core.Path.{◌≡◌, refl, sym, ap, ◌∙◌, subst}
use mathlib.Core.Bool.{Bool, true, false, cond, not}
use mathlib.Core.List.{List, [], ◌∷◌}
use mathlib.Core.Option.{Option, none, some}
use mathlib.Core.Logic.{◌↔◌, ◌⊎◌, inl, inr, ⊎_elim}
use native.Mathlib.Omega.{arith}
use lib.Dec.{eqb, lit≤}
use lib.ListN.{length}
use Rattle.octets.specs.Bytes.{same}
use Rattle.octets.specs.Rows.{number}
use Rattle.octets.proofs.Equality.{true_false, same_eq}
use Rattle.octets.proofs.Tests.{eqb_exactly, both_exactly, not_fails, same_exactly}
use Rattle.octets.proofs.Rows.{Matches, by_number}
use Rattle.hmac.specs.Hmac.{hmac_sha256}
use Rattle.hmac.proofs.Laws.{mac-bytes}
use Rattle.threshold.specs.Threshold.{threshold_right, ThresholdFits}
use Rattle.threshold.proofs.Exactly.{threshold_exactly}
use Rattle.utf8.proofs.Options.{never}
use Rattle.label_spec.specs.Label.{raw_key_size, hs256, siv_gcm_name, siv_ctrmac_name, combo_number, Reading, reading, is_some, or_nothing, said, is_eight, is_threshold, unreadable, open_label_rows, open_label}
use Rattle.label_spec.specs.Rules.{Says, Unsigned, open_label_rules}
use Rattle.label_spec.proofs.Reading.{reads_exactly}
use Rattle.label_spec.proofs.Broken.{unreadable-number}

-- ---- what is said

pub said_is : (l : List ℕ) (r : Reading) → reading l ≡ some r → said l ≡ r
unfolding said
said_is l r e = rw e

nothing_said : (l : List ℕ) → reading l ≡ none → said l ≡ or_nothing none
unfolding said
nothing_said l e = rw e

-- What a label says holds of what is said.
pub of_said : (l : List ℕ) (P : Reading → Type 0) → Says l P → P (said l)
of_said l P s = subst P (sym (said_is l s.0 ((reads_exactly l s.0).1 s.1))) s.2

-- What holds of what is said, but not of nothing, is said by the label.
says_exactly : (l : List ℕ) (Q P : Reading → Type 0) → (Q (or_nothing none) → ⊥) → ((r : Reading) → Q r ↔ P r) → Q (said l) ↔ Says l P
says_exactly l Q P n f = go (reading l) refl
  where
    go : (x : Option Reading) → reading l ≡ x → Q (said l) ↔ Says l P
    go none e = (λ q. absurd (n (subst Q (nothing_said l e) q)), λ s. never (sym e ∙ (reads_exactly l s.0).1 s.1))
    go (some r) e = (λ q. (r, (reads_exactly l r).0 e, (f r).0 (subst Q (said_is l r e) q)), λ s. (f (said l)).1 (of_said l P s))

readable_exactly : (l : List ℕ) → (is_some (reading l) ≡ true) ↔ Says l (λ r. Unit {0})
readable_exactly l = (there (reading l) refl, λ s. ap (λ (x : Option Reading). is_some x) ((reads_exactly l s.0).1 s.1))
  where
    there : (x : Option Reading) → reading l ≡ x → is_some x ≡ true → Says l (λ r. Unit {0})
    there none e h = absurd (true_false (sym h))
    there (some r) e h = (r, (reads_exactly l r).0 e, tt)

-- ---- what the tests say of a reading

alg_exactly : (r : Reading) → (not (same r.alg hs256) ≡ false) ↔ (r.alg ≡ hs256)
alg_exactly r = not_fails (same_exactly r.alg hs256)

mac_exactly : (key : List ℕ) (r : Reading) → (not (same (hmac_sha256 key r.signed) r.signature) ≡ false) ↔ (hmac_sha256 key r.signed ≡ r.signature)
mac_exactly key r = not_fails (same_exactly (hmac_sha256 key r.signed) r.signature)

no_sign : (b : Bool) → (not b ≡ true) ↔ (b ≡ false)
no_sign true = (λ e. sym e, λ e. sym e)
no_sign false = (λ e. refl, λ e. refl)

format_exactly : (r : Reading) → (not (is_eight r.format) ≡ false) ↔ Unsigned r.format (λ n. n ≡ 8)
format_exactly r = not_fails (both_exactly (no_sign r.format.0) (eqb_exactly r.format.1 8))

limits_exactly : (r : Reading) → (not (is_threshold r.threshold) ≡ false) ↔ Unsigned r.threshold ThresholdFits
limits_exactly r = not_fails (both_exactly (no_sign r.threshold.0) (threshold_exactly r.threshold.1))

-- ---- combos

pub gcm_number : combo_number siv_gcm_name ≡ 1
unfolding combo_number same
gcm_number = refl

pub ctrmac_number : combo_number siv_ctrmac_name ≡ 2
unfolding combo_number same
ctrmac_number = refl

combo-known : (name : List ℕ) → eqb (combo_number name) 0 ≡ false → (name ≡ siv_gcm_name) ⊎ (name ≡ siv_ctrmac_name)
unfolding combo_number
combo-known name h = go (same name siv_gcm_name) refl (same name siv_ctrmac_name) refl h
  where
    go : (a : Bool) → same name siv_gcm_name ≡ a → (b : Bool) → same name siv_ctrmac_name ≡ b → eqb (cond a 1 (cond b 2 0)) 0 ≡ false → (name ≡ siv_gcm_name) ⊎ (name ≡ siv_ctrmac_name)
    go true p b q h = inl (same_eq name siv_gcm_name p)
    go false p true q h = inr (same_eq name siv_ctrmac_name q)
    go false p false q h = absurd (true_false h)

combo_exactly : (r : Reading) → (eqb (combo_number r.combo) 0 ≡ false) ↔ ((r.combo ≡ siv_gcm_name) ⊎ (r.combo ≡ siv_ctrmac_name))
combo_exactly r = (
  combo-known r.combo,
  ⊎_elim
      (λ e. ap (λ (n : ℕ). eqb n 0) (ap combo_number e ∙ gcm_number))
      (λ e. ap (λ (n : ℕ). eqb n 0) (ap combo_number e ∙ ctrmac_number)),
)

-- ---- the rows

-- A MAC has 32 bytes, and nothing has none.
nothing_unsigned : (key : List ℕ) → not (same (hmac_sha256 key []) []) ≡ false → ⊥
nothing_unsigned key e = let q = ap length ((mac_exactly key (or_nothing none)).0 e) in omega (arith, (mac-bytes key []).0, q)

nothing_unfit : not (is_threshold (false, 0)) ≡ false → ⊥
unfolding threshold_right
nothing_unfit = true_false

pub label_matches : (key l : List ℕ) → Matches (open_label_rows key l) (open_label_rules key l)
unfolding open_label_rows same combo_number
label_matches key l = (
  refl,
  not_fails (eqb_exactly (length key) raw_key_size),
  (
    refl,
    not_fails (readable_exactly l),
    (
      refl,
      says_exactly l (λ r. not (same r.alg hs256) ≡ false) (λ r. r.alg ≡ hs256) true_false alg_exactly,
      (
        refl,
        says_exactly l (λ r. not (same (hmac_sha256 key r.signed) r.signature) ≡ false) (λ r. hmac_sha256 key r.signed ≡ r.signature) (nothing_unsigned key) (mac_exactly key),
        (
          refl,
          says_exactly l (λ r. not (is_eight r.format) ≡ false) (λ r. Unsigned r.format (λ n. n ≡ 8)) true_false format_exactly,
          (
            refl,
            says_exactly l (λ r. eqb (combo_number r.combo) 0 ≡ false) (λ r. (r.combo ≡ siv_gcm_name) ⊎ (r.combo ≡ siv_ctrmac_name)) true_false combo_exactly,
            (
              refl,
              says_exactly l (λ r. not (is_threshold r.threshold) ≡ false) (λ r. Unsigned r.threshold ThresholdFits) nothing_unfit limits_exactly,
              tt,
            ),
          ),
        ),
      ),
    ),
  ),
)

-- An answer with the number 13 is that of row 13.
pub by_row_13 : (key l : List ℕ) → number (open_label key l) ≡ 13 → open_label key l ≡ unreadable l
unfolding open_label open_label_rows
by_row_13 key l e = by_number (open_label_rows key l) (rw (unreadable-number l)) (combo_number (said l).combo ∷ (said l).threshold.1 ∷ []) 1 (lit≤ tt) (e ∙ sym (unreadable-number l))
