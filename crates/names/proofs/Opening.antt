-- How the two openers end, by what their code finds.
-- Assumes nothing.
use Prim.Native.Nat.{ℕ, ◌≤◌, ◌<◌}
use mathlib.Core.Path.{◌≡◌, refl, sym, ap, ap₂, ◌∙◌}
use mathlib.Core.Bool.{Bool, true, false, not, ◌||◌}
use mathlib.Core.List.{List}
use native.Mathlib.Omega.{arith}
use lib.ListN.{length}
use borrow.Author.Tests.{lt-ltb, le-ltb, le-leb}
use Rattle.octets.specs.Bytes.{same}
use Rattle.octets.specs.Rows.{refused, refused_at, ended}
use Rattle.threshold.specs.Threshold.{threshold_right}
use Rattle.frame.specs.Frame.{master_keys_right}
use Rattle.encoding.specs.Base64url.{encoded_length}
use Rattle.encoding.specs.declared.base64url.BrokenAt.{BrokenAt}
use Rattle.answer.specs.declared.Refusal.{Refusal}
use Rattle.answer.specs.declared.Refusal.TheVariants.{Text}
use Rattle.answer.specs.Meaning.{row}
use Rattle.std.proofs.Common.{Result, Ok, Err, inl, inr}
use Rattle.name_spec.specs.Names.{id_right, short, text_right, name_length, hash_name}
use Rattle.name_spec.specs.Calls.{open_name_rows, open_name, open_long_name_rows, open_long_name, open_text}
use Rattle.name_spec.proofs.Ends.{name_ends, plain_by_text, long_by_text}
use Rattle.name_spec.proofs.Longest.{text-within}
use Rattle.name_texts.specs.Forms.{form_of}
use Rattle.name_texts.proofs.Measured.{broken_tells, right_tells, either_fails}
use Rattle.names.specs.Head.{Denied, text_row}

-- What an answer with row 5 tells.
row_ok : (f : Result ℕ BrokenAt) (n : ℕ) → Ok n ≡ text_row f → f ≡ Ok n
row_ok (Ok m) n e = let z : m ≡ n = cc in ap Ok z
row_ok (Err b) n e = let z : ◌≡◌ {A = ℕ} 0 1 = cc in absurd (omega arith)

row_err : (f : Result ℕ BrokenAt) (r : Refusal) → Err r ≡ text_row f → (b : BrokenAt) × (f ≡ Err b) × (r ≡ Text b.0)
row_err (Ok n) r e = let z : ◌≡◌ {A = ℕ} 0 1 = cc in absurd (omega arith)
row_err (Err b) r e = (b, refl, cc)

module _ (threshold : ℕ) (enc mac id : List ℕ) (keys : master_keys_right enc mac ≡ true) where
  pub plain-denied : (t out : List ℕ) (r : Refusal) → Denied threshold id r → ended (row r) out ≡ open_name threshold enc mac id t out
  unfolding open_name_rows
  plain-denied t out r (inl d) = rw d.1 (sym ((((name_ends threshold enc mac id).1 t out).0 0 (omega arith)).1 (ap not d.0)))
  plain-denied t out r (inr d) = rw d.2 (sym ((((name_ends threshold enc mac id).1 t out).0 2 (omega arith)).1 (ap not d.0, (ap not keys, ap not d.1))))

  pub long-denied : (s t out : List ℕ) (r : Refusal) → Denied threshold id r → ended (row r) out ≡ open_long_name threshold enc mac id s t out
  unfolding open_long_name_rows
  long-denied s t out r (inl d) = rw d.1 (sym ((((name_ends threshold enc mac id).2 s t out).0 0 (omega arith)).1 (ap not d.0)))
  long-denied s t out r (inr d) = rw d.2 (sym ((((name_ends threshold enc mac id).2 s t out).0 2 (omega arith)).1 (ap not d.0, (ap not keys, ap not d.1))))

  module _ (allowed : (threshold_right threshold ≡ true) × (id_right id ≡ true)) where
    -- A name that is stored as it is.
    module _ (t out : List ℕ) where
      pub plain-broken : (r : Refusal) → Err r ≡ text_row (form_of threshold t) → ended (row r) out ≡ open_name threshold enc mac id t out
      unfolding open_name_rows
      plain-broken r e =
          let b = row_err _ r e in
          let f = broken_tells t threshold b.0.0 b.1 in
          rw b.2 (ap (λ (p : ℕ). ended (refused_at 5 p) out) f.1
          ∙ sym ((((name_ends threshold enc mac id).1 t out).0 3 (omega arith)).1 (ap not allowed.0, (ap not keys, (ap not allowed.1, either_fails (text_right t) _ f.0)))))

      module _ (n : ℕ) (e : Ok n ≡ text_row (form_of threshold t)) where
        found : (text_right t ≡ true) × (length t ≤ threshold) × (n ≡ name_length t)
        found = right_tells t threshold n (row_ok _ n e)

        pub plain-asked : n ≤ length out → (text_right t ≡ true) × (n ≡ name_length t) × (n ≤ length out)
        plain-asked h = (found.0, found.2, h)

        fits : (not (text_right t) || not (short threshold (length t))) ≡ false
        fits = ap₂ (λ (a b : Bool). not a || not b) found.0 (le-leb (length t) threshold found.1)

        pub plain-lacks : length out < n → ended (refused 7) out ≡ open_name threshold enc mac id t out
        unfolding open_name_rows
        plain-lacks h =
            sym ((((name_ends threshold enc mac id).1 t out).0 4 (omega arith)).1
            (ap not allowed.0, (ap not keys, (ap not allowed.1, (fits, lt-ltb (length out) (name_length t) (rw (← found.2) h))))))

        pub plain-opens : n ≤ length out → open_text enc mac id t out ≡ open_name threshold enc mac id t out
        plain-opens h = sym (plain_by_text threshold enc mac id allowed.0 keys allowed.1 t out fits (le-ltb (length out) (name_length t) (rw (← found.2) h)))

    -- A shortened name.
    module _ (s t out : List ℕ) where
      pub long-broken : (r : Refusal) → Err r ≡ text_row (form_of 1388 t) → ended (row r) out ≡ open_long_name threshold enc mac id s t out
      unfolding open_long_name_rows encoded_length
      long-broken r e =
          let b = row_err _ r e in
          let f = broken_tells t 1388 b.0.0 b.1 in
          rw b.2 (ap (λ (p : ℕ). ended (refused_at 5 p) out) f.1
          ∙ sym ((((name_ends threshold enc mac id).2 s t out).0 3 (omega arith)).1 (ap not allowed.0, (ap not keys, (ap not allowed.1, ap not (sym (text-within t) ∙ f.0))))))

      module _ (n : ℕ) (e : Ok n ≡ text_row (form_of 1388 t)) where
        long-found : (text_right t ≡ true) × (length t ≤ 1388) × (n ≡ name_length t)
        long-found = right_tells t 1388 n (row_ok _ n e)

        pub long-asked : n ≤ length out → (text_right t ≡ true) × (n ≡ name_length t) × (n ≤ length out)
        long-asked h = (long-found.0, long-found.2, h)

        pub long-lacks : length out < n → ended (refused 7) out ≡ open_long_name threshold enc mac id s t out
        unfolding open_long_name_rows
        long-lacks h =
            sym ((((name_ends threshold enc mac id).2 s t out).0 4 (omega arith)).1
            (ap not allowed.0, (ap not keys, (ap not allowed.1, (ap not long-found.0, lt-ltb (length out) (name_length t) (rw (← long-found.2) h))))))

        module _ (h : n ≤ length out) where
          unpaired : (short threshold (length t) || not (same s (hash_name t))) ≡ true → ended (refused 11) out ≡ open_long_name threshold enc mac id s t out
          unfolding open_long_name_rows
          unpaired p =
              sym ((((name_ends threshold enc mac id).2 s t out).0 5 (omega arith)).1
              (ap not allowed.0, (ap not keys, (ap not allowed.1, (ap not long-found.0, (le-ltb (length out) (name_length t) (rw (← long-found.2) h), p))))))

          pub too_short : short threshold (length t) ≡ true → ended (refused 11) out ≡ open_long_name threshold enc mac id s t out
          too_short k = unpaired (ap (λ (b : Bool). b || not (same s (hash_name t))) k)

          pub other-hash : short threshold (length t) ≡ false → same s (hash_name t) ≡ false → ended (refused 11) out ≡ open_long_name threshold enc mac id s t out
          other-hash k p = unpaired (ap₂ (λ (a b : Bool). a || not b) k p)

          pub long-opens : short threshold (length t) ≡ false → same s (hash_name t) ≡ true → open_text enc mac id t out ≡ open_long_name threshold enc mac id s t out
          long-opens k p =
              sym (long_by_text threshold enc mac id allowed.0 keys allowed.1 s t out long-found.0 (le-ltb (length out) (name_length t) (rw (← long-found.2) h)) (ap₂ (λ (a b : Bool). a || not b) k p))
