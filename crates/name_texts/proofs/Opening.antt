-- How the last rows of both openers end, by what the code finds: t is a text in the form of a full name, of a name of n bytes.
-- Assumes nothing.
use Prim.Native.Nat.{ℕ, ◌+◌, ◌≤◌}
use mathlib.Core.Path.{◌≡◌, sym, ap, ap₂, ◌∙◌}
use mathlib.Core.Bool.{Bool, true, false, not}
use mathlib.Core.List.{List, [], ◌∷◌}
use native.Mathlib.Omega.{arith}
use lib.ListN.{length, take, replicate}
use Rattle.octets.specs.Bytes.{placed}
use Rattle.octets.specs.Rows.{done, refused, ended}
use Rattle.aes_spec.specs.Cipher.{aes}
use Rattle.encoding.specs.Base64url.{decoded}
use Rattle.siv.specs.Siv as siv
use Rattle.utf8.specs.ProperText.{proper_text}
use Rattle.name_spec.specs.Names.{name_limit, iv_size, stem, sealed_of, name_length, name_of, name_good, text_right}
use Rattle.name_spec.specs.Calls.{open_text_rows, open_text}
use Rattle.name_spec.proofs.Ends.{text_ends}
use Rattle.name_spec.proofs.Texts.{text_facts, length-name}
use Rattle.name_texts.proofs.Placing.{front, placed-filled}

module _ (enc mac id t out : List ℕ) (n : ℕ) (asked : (text_right t ≡ true) × (n ≡ name_length t) × (n ≤ length out)) where
  -- The decoded stem, at the front of a buffer z.
  module _ (z : List ℕ) (d : z ≡ placed (decoded true (stem t)) 0 (replicate (name_limit + iv_size) 0)) where
    sealed_size : length (sealed_of t) ≡ n + 16
    unfolding name_length
    sealed_size = let f = text_facts t asked.0 in omega (arith, f.low, asked.1)

    sealed : take (n + 16) z ≡ sealed_of t
    unfolding sealed_of
    sealed = ap (take (n + 16)) d ∙ front (sealed_of t) (replicate (name_limit + iv_size) 0) (n + 16) sealed_size

    pub sealed_part : n + 16 ≡ length (take (n + 16) z)
    sealed_part = sym (ap length sealed ∙ sealed_size)

    -- What opening asks.
    pub sealed_fits : (iv_size ≤ length (take (n + 16) z)) × (length (take (n + 16) z) ≤ name_limit + iv_size)
    sealed_fits = let f = text_facts t asked.0 in (omega (arith, sealed_part), omega (arith, sealed_part, sealed_size, f.high))

    -- The synthetic IV matches, or not.
    module _ (b : Bool) (g : b ≡ siv.good (aes 8 mac) (aes 8 enc) (id ∷ []) (take (n + 16) z)) where
      matches : b ≡ name_good enc mac id t
      unfolding name_good
      matches = g ∙ ap (siv.good (aes 8 mac) (aes 8 enc) (id ∷ [])) sealed

      pub wrong_iv : b ≡ false → ended (refused 12) out ≡ open_text enc mac id t out
      unfolding open_text_rows
      wrong_iv e = sym (((text_ends enc mac id t out).0 0 (omega arith)).1 (ap not (sym matches ∙ e)))

    -- The cleartext, at the front of a buffer m.
    module _ (m : List ℕ) (e : m ≡ placed (siv.plain (aes 8 enc) (take (n + 16) z)) 0 (replicate name_limit 0)) where
      name_size : length (name_of enc t) ≡ n
      name_size = length-name enc t ∙ sym asked.1

      name : take n m ≡ name_of enc t
      unfolding name_of
      name = ap (take n) (e ∙ ap (λ (s : List ℕ). placed (siv.plain (aes 8 enc) s) 0 (replicate name_limit 0)) sealed) ∙ front (name_of enc t) (replicate name_limit 0) n name_size

      pub name_part : n ≡ length (take n m)
      name_part = sym (ap length name ∙ name_size)

      -- It is proper text, or not.
      module _ (b u : Bool) (g : b ≡ siv.good (aes 8 mac) (aes 8 enc) (id ∷ []) (take (n + 16) z)) (right : b ≡ true) (told : u ≡ proper_text (take n m)) where
        good : not (name_good enc mac id t) ≡ false
        good = ap not (sym (matches b g) ∙ right)

        pub no_text : u ≡ false → ended (refused 3) out ≡ open_text enc mac id t out
        unfolding open_text_rows
        no_text k = sym (((text_ends enc mac id t out).0 1 (omega arith)).1 (good, ap not (sym (told ∙ ap proper_text name) ∙ k)))

        pub opened : (new : List ℕ) → u ≡ true → new ≡ placed (take n m) 0 out → ended (done (n ∷ [])) new ≡ open_text enc mac id t out
        unfolding open_text_rows
        opened new k p =
            ap₂ (λ (i : ℕ) (l : List ℕ). ended (done (i ∷ [])) l) asked.1
            (p ∙ ap (λ (l : List ℕ). placed l 0 out) name ∙ placed-filled (name_of enc t) out (name_length t) (length-name enc t))
            ∙ sym ((text_ends enc mac id t out).1.1 (good, (ap not (sym (told ∙ ap proper_text name) ∙ k), tt)))
