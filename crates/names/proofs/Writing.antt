-- How the name writer ends, by what its code finds.
-- Assumes nothing.
use Prim.Native.Nat.{ℕ, ◌≤◌, ◌<◌}
use mathlib.Core.Path.{◌≡◌, sym, ap, ap₂, ◌∙◌}
use mathlib.Core.Bool.{true, false, not}
use mathlib.Core.List.{List, [], ◌∷◌}
use native.Mathlib.Omega.{arith}
use lib.ListN.{length, take}
use borrow.Author.Tests.{leb-true, leb-false}
use Rattle.octets.specs.Bytes.{placed}
use Rattle.octets.specs.Rows.{done, refused}
use Rattle.threshold.specs.Threshold.{threshold_right}
use Rattle.frame.specs.Frame.{master_keys_right}
use Rattle.answer.specs.declared.Refusal.{Refusal}
use Rattle.answer.specs.Meaning.{row}
use Rattle.std.proofs.Common.{inl, inr}
use Rattle.name_spec.specs.Names.{id_right, name_right, full_name, full_length, hash_name, short}
use Rattle.name_spec.specs.Calls.{hash_length, lacks_room, name_ended, write_name_rows, write_name}
use Rattle.name_spec.proofs.Texts.{length-full, length_hash}
use Rattle.name_spec.proofs.Ends.{name_ends, plain-written, long_written}
use Rattle.name_texts.proofs.Placing.{front, placed-filled}
use Rattle.names.proofs.Room.{plain-lacks, plain_has, stored-lacks, full-lacks, both_have}
use Rattle.names.specs.Head.{Denied}

module _ (threshold : ℕ) (enc mac id name stored full : List ℕ) (keys : master_keys_right enc mac ≡ true) where
  pub write-denied : (r : Refusal) → Denied threshold id r → name_ended (row r) stored full ≡ write_name threshold enc mac id name stored full
  unfolding write_name_rows
  write-denied r (inl d) = rw d.1 (sym ((((name_ends threshold enc mac id).0 name stored full).0 0 (omega arith)).1 (ap not d.0)))
  write-denied r (inr d) = rw d.2 (sym ((((name_ends threshold enc mac id).0 name stored full).0 2 (omega arith)).1 (ap not d.0, (ap not keys, ap not d.1))))

  module _ (allowed : (threshold_right threshold ≡ true) × (id_right id ≡ true)) where
    pub no_name : name_right name ≡ false → name_ended (refused 3) stored full ≡ write_name threshold enc mac id name stored full
    unfolding write_name_rows
    no_name e = sym ((((name_ends threshold enc mac id).0 name stored full).0 3 (omega arith)).1 (ap not allowed.0, (ap not keys, (ap not allowed.1, ap not e))))

    -- The full name has n characters.
    module _ (right : name_right name ≡ true) (n : ℕ) (e : n ≡ full_length (length name)) where
      lacks : lacks_room threshold (length stored) (length full) n ≡ true → name_ended (refused 7) stored full ≡ write_name threshold enc mac id name stored full
      unfolding write_name_rows
      lacks r =
          sym ((((name_ends threshold enc mac id).0 name stored full).0 4 (omega arith)).1
          (ap not allowed.0, (ap not keys, (ap not allowed.1, (ap not right, ap (lacks_room threshold (length stored) (length full)) (sym e) ∙ r)))))

      full_size : length (full_name enc mac id name) ≡ n
      full_size = length-full enc mac id name ∙ sym e

      -- It is stored as it is.
      module _ (s : short threshold n ≡ true) where
        pub plain-refused : length stored < n → name_ended (refused 7) stored full ≡ write_name threshold enc mac id name stored full
        plain-refused h = lacks (plain-lacks threshold (length stored) (length full) n s h)

        pub plain-ends : (a : List ℕ) → n ≤ length stored → a ≡ placed (full_name enc mac id name) 0 stored → name_ended (done (n ∷ [])) a full ≡ write_name threshold enc mac id name stored full
        unfolding write_name_rows
        plain-ends a h p =
            let r = ap (lacks_room threshold (length stored) (length full)) (sym e) ∙ plain_has threshold (length stored) (length full) n s h in
            ap (λ (l : List ℕ). name_ended (done (n ∷ [])) l full) (p ∙ placed-filled (full_name enc mac id name) stored n full_size)
            ∙ sym (((name_ends threshold enc mac id).0 name stored full).1.1 (ap not allowed.0, (ap not keys, (ap not allowed.1, (ap not right, (r, tt)))))
            ∙ plain-written threshold enc mac id name stored full n e (leb-true n threshold s))

      -- It is shortened.
      module _ (s : short threshold n ≡ false) where
        pub stored-refused : length stored < hash_length → name_ended (refused 7) stored full ≡ write_name threshold enc mac id name stored full
        stored-refused h = lacks (stored-lacks threshold (length stored) (length full) n s h)

        pub full-refused : hash_length ≤ length stored → length full < n → name_ended (refused 7) stored full ≡ write_name threshold enc mac id name stored full
        full-refused h k = lacks (full-lacks threshold (length stored) (length full) n s h k)

        module _ (b : List ℕ) (q : b ≡ placed (full_name enc mac id name) 0 full) where
          full_text : take n b ≡ full_name enc mac id name
          full_text = ap (take n) q ∙ front (full_name enc mac id name) full n full_size

          pub full_part : n ≡ length (take n b)
          full_part = sym (ap length full_text ∙ full_size)

          pub long-ends : (a : List ℕ) → hash_length ≤ length stored → n ≤ length full → a ≡ placed (hash_name (take n b)) 0 stored
              → name_ended (done (hash_length ∷ n ∷ [])) a b ≡ write_name threshold enc mac id name stored full
          unfolding write_name_rows
          long-ends a h k p =
              let f = full_name enc mac id name in
              let r = ap (lacks_room threshold (length stored) (length full)) (sym e) ∙ both_have threshold (length stored) (length full) n s h k in
              ap₂ (name_ended (done (hash_length ∷ n ∷ [])))
              (p ∙ ap (λ (l : List ℕ). placed (hash_name l) 0 stored) full_text ∙ placed-filled (hash_name f) stored hash_length (length_hash f))
              (q ∙ placed-filled f full n full_size)
              ∙ sym (((name_ends threshold enc mac id).0 name stored full).1.1 (ap not allowed.0, (ap not keys, (ap not allowed.1, (ap not right, (r, tt)))))
              ∙ long_written threshold enc mac id name stored full n e (leb-false n threshold s))
