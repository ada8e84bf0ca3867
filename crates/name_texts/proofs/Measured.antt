-- The length of the name in a text whose form is right; and what the test of the text form answers.
-- Assumes nothing.
use Prim.Native.Nat.{ℕ, ◌+◌, ◌-◌, ◌≤◌, ◌<◌}
use mathlib.Core.Path.{◌≡◌, refl, sym, ap, ◌∙◌}
use mathlib.Core.Bool.{Bool, true, false, cond, not, ◌&&◌, ◌||◌, and-false}
use mathlib.Core.List.{List}
use native.Mathlib.Omega.{arith}
use lib.ListN.{length, drop}
use lib.Dec.{leb, eqb}
use borrow.Author.Tests.{lt-leb, le-leb, leb-true}
use Rattle.octets.specs.Bytes.{same}
use Rattle.octets.proofs.Equality.{pointwise_same, same_eq, and_true, true_false}
use Rattle.encoding.specs.Base64url.{accepted, decoded}
use Rattle.name_spec.specs.Names.{name_limit, iv_size, full_end, stem, sealed_of, name_length, text_right}
use Rattle.name_spec.specs.Places.{text_broken_at}
use Rattle.encoding.specs.declared.base64url.BrokenAt.{BrokenAt}
use Rattle.encoding.specs.Measures.{broken as broken_text, answer, measure_of}
use Rattle.encoding.specs.Leading.{Leading}
use Rattle.encoding.proofs.Answers.{refused-text}
use Rattle.encoding.proofs.Laws.{measured_is_accepted}
use Rattle.name_texts.specs.Forms.{form_of}
use Rattle.name_texts.proofs.Stems.{leading_stem}
use Rattle.std.proofs.Common.{Option, Some, None, Result, Ok, Err}
use Rattle.std.specs.Result.{result_ok}
use lib.Pointwise.{pointwise}

-- One of two tests fails.
pub either_fails : (a b : Bool) → (a && b) ≡ false → (not a || not b) ≡ true
either_fails true true e = absurd (true_false e)
either_fails true false e = refl
either_fails false b e = refl

-- What the check of a text answers.
measured : (s : List ℕ) (m : ℕ) (r : Result ℕ BrokenAt) → r ≡ measure_of true s → Some m ≡ result_ok r → (accepted true s ≡ true) × (length (decoded true s) ≡ m)
measured s m (Ok n) e k = let z : n ≡ m = cc in measured_is_accepted true s m (sym e ∙ ap Ok z)
measured s m (Err b) e k = let z : ◌≡◌ {A = ℕ} 0 1 = cc in absurd (omega arith)

refused : (s : List ℕ) (r : Result ℕ BrokenAt) → r ≡ measure_of true s → None ≡ result_ok r → accepted true s ≡ false
refused s (Ok n) e k = let z : ◌≡◌ {A = ℕ} 0 1 = cc in absurd (omega arith)
refused s (Err b) e k = (refused-text true s b.0 (sym e)).0

module _ (t : List ℕ) where
  -- r is the length of the name in a text whose form is right.
  abbrev pub Measures : Option ℕ → Type 0
  Measures r = r ≡ cond (text_right t) (Some (name_length t)) None

  broken : text_right t ≡ false → Measures None
  broken e = rw e

  pub other-end : pointwise eqb (drop (length t - 4) t) full_end ≡ false → Measures None
  unfolding text_right
  other-end e = broken (rw (sym (pointwise_same (drop (length t - 4) t) full_end) ∙ e))

  -- The text has the end, and s before it.
  module _ (s : List ℕ) (h : (pointwise eqb (drop (length t - 4) t) full_end ≡ true) × (s ≡ stem t) × (length s + 4 ≡ length t)) where
    ends : same (drop (length t - 4) t) full_end ≡ true
    ends = sym (pointwise_same (drop (length t - 4) t) full_end) ∙ h.0

    pub leading_of_stem : (n : ℕ) → Leading n t → Leading n s
    leading_of_stem n l = rw h.1 (leading_stem t n l (omega (arith, h.2)) (same_eq (drop (length t - 4) t) full_end ends))

    -- What the check of s answers.
    module _ (r : Result ℕ BrokenAt) (e : r ≡ measure_of true s) where
      pub not_accepted : None ≡ result_ok r → Measures None
      unfolding text_right
      not_accepted k = broken (rw (ends, sym (ap (accepted true) h.1) ∙ refused s r e k))

    -- The stem stands for m bytes.
    module _ (m : ℕ) (r : Result ℕ BrokenAt) (e : r ≡ measure_of true s) (k : Some m ≡ result_ok r) where
      ok : (accepted true (stem t) ≡ true) × (length (decoded true (stem t)) ≡ m)
      ok = rw h.1 at (measured s m r e k)

      pub too_few : m < 17 → Measures None
      unfolding text_right sealed_of
      too_few h = broken (rw (ends, ok.0, ok.1, lt-leb 17 m h))

      pub too_many : 17 ≤ m → name_limit + iv_size < m → Measures None
      unfolding text_right sealed_of
      too_many h k = broken (rw (ends, ok.0, ok.1, le-leb 17 m h, lt-leb m (name_limit + iv_size) k))

      pub in_form : 17 ≤ m → m ≤ name_limit + iv_size → Measures (Some (m - 16))
      unfolding text_right name_length sealed_of
      in_form h k = rw (ends, ok.0, ok.1, le-leb 17 m h, le-leb m (name_limit + iv_size) k)

  -- What the length tells.
  form_broken : Measures None → text_right t ≡ false
  form_broken e = go (text_right t) e
    where
      go : (b : Bool) → None ≡ cond b (Some (name_length t)) None → b ≡ false
      go true e = cc
      go false e = refl

  form_right : (m : ℕ) → Measures (Some m) → (text_right t ≡ true) × (m ≡ name_length t)
  form_right m e = go (text_right t) e
    where
      go : (b : Bool) → Some m ≡ cond b (Some (name_length t)) None → (b ≡ true) × (m ≡ name_length t)
      go true e = (refl, cc)
      go false e = (cc, cc)

  -- What is answered.
  pub broken_form : (most p : ℕ) → Measures None → p ≡ text_broken_at most t → Err (broken_text p) ≡ form_of most t
  unfolding form_of
  broken_form most p e f = rw (form_broken e, f)

  pub long_form : (most p : ℕ) → most < length t → p ≡ text_broken_at most t → Err (broken_text p) ≡ form_of most t
  unfolding form_of
  long_form most p h f = rw (lt-leb (length t) most h, and-false (text_right t), f)

  pub right_form : (most m : ℕ) → Measures (Some m) → length t ≤ most → Ok m ≡ form_of most t
  unfolding form_of
  right_form most m e h = let f = form_right m e in rw (f.0, le-leb (length t) most h, f.1)

  -- What an answer tells.
  pub broken_tells : (most place : ℕ) → form_of most t ≡ Err (broken_text place) → ((text_right t && leb (length t) most) ≡ false) × (place ≡ text_broken_at most t)
  unfolding form_of
  broken_tells most place e = go (text_right t && leb (length t) most) e
    where
      go : (b : Bool) → answer b (name_length t) (text_broken_at most t) ≡ Err (broken_text place) → (b ≡ false) × (place ≡ text_broken_at most t)
      go true e = (cc, let z : ◌≡◌ {A = ℕ} 0 1 = cc in absurd (omega arith))
      go false e = let z : broken_text (text_broken_at most t) ≡ broken_text place = cc in (refl, sym (ap (λ (b : BrokenAt). b.0) z))

  pub right_tells : (most n : ℕ) → form_of most t ≡ Ok n → (text_right t ≡ true) × (length t ≤ most) × (n ≡ name_length t)
  unfolding form_of
  right_tells most n e = go (text_right t && leb (length t) most) refl e
    where
      go : (b : Bool) → (text_right t && leb (length t) most) ≡ b → answer b (name_length t) (text_broken_at most t) ≡ Ok n → (text_right t ≡ true) × (length t ≤ most) × (n ≡ name_length t)
      go true f e = let p = and_true (text_right t) (leb (length t) most) f in (p.0, leb-true (length t) most p.1, cc)
      go false f e = let z : ◌≡◌ {A = ℕ} 0 1 = cc in absurd (omega arith)
