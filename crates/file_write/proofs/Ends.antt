-- What the file writer ends in, row by row; the sizes that its first row asks for; and the two parts of its buffer.
-- Assumes nothing.
use mathlib.Core.Path.{◌≡◌, sym, ap, ◌∙◌}
use mathlib.Core.Bool.{Bool, true, false, not, ◌&&◌}
use mathlib.Core.List.{List, [], ◌∷◌, ◌++◌}
use Prim.Native.Nat.{ℕ, ◌+◌, ◌-◌, ◌*◌, ◌≤◌, ◌<◌}
use native.Mathlib.Omega.{arith}
use lib.ListN.{length, take, drop, length-append, length-drop}
use lib.Seq.{take_all}
use lib.Dec.{eqb}
use borrow.Author.Tests.{eqb-true, lt-ltb, le-ltb}
use Rattle.octets.specs.Rows.{Outcome, done, refused, answer, ended, ending}
use Rattle.octets.proofs.Equality.{and_true}
use Rattle.octets.proofs.Lists.{placed-rest}
use Rattle.octets.proofs.Rows.{first_answers, none_answers}
use Rattle.octets.specs.Bytes.{filled}
use Rattle.frame.specs.Layout.{limit, chunks, repeats, file_length}
use Rattle.frame.specs.Frame.{Codec, Choice, head_right, file_of, write_rows, write_file}
use Rattle.frame.proofs.Rules.{head-sizes}

module _ (C : Codec) (c : Choice) where
  open C use {sizes as z, keys_right}

  abbrev pub sizes_right : Bool
  sizes_right = keys_right && (head_right z c.head && eqb (length c.nonces) (z.nonce * chunks (length c.clear)))

  pub sizes_facts : sizes_right ≡ true → (length c.head.nonce ≡ z.nonce) × (length c.head.key ≡ 32) × (length c.nonces ≡ z.nonce * chunks (length c.clear))
  sizes_facts e =
      let q = and_true (head_right z c.head) _ (and_true keys_right _ e).1 in
      let h = (head-sizes z c.head).0 q.0 in
      (h.0, h.1, eqb-true _ _ q.1)

  abbrev size : ℕ
  size = file_length z (length c.clear)

  abbrev again : Bool
  again = repeats z.nonce (chunks (length c.clear)) c.nonces

  module _ (out : List ℕ) where
    ends : (o : Outcome) → answer (write_rows C c (length out)) (done (size ∷ [])) ≡ o → ending o (filled (file_of C c) size out) out ≡ write_file C c out
    unfolding write_file
    ends o e = sym (ap (λ (x : Outcome). ending x (filled (file_of C c) size out) out) e)

    pub row_1 : sizes_right ≡ false → ended (refused 1) out ≡ write_file C c out
    unfolding write_rows
    row_1 e = ends (refused 1) (first_answers (write_rows C c (length out)) (done (size ∷ [])) 0 (ap not e))

    module _ (k : sizes_right ≡ true) where
      pub row_4 : limit < length c.clear → ended (refused 4) out ≡ write_file C c out
      unfolding write_rows
      row_4 h = ends (refused 4) (first_answers (write_rows C c (length out)) (done (size ∷ [])) 1 (ap not k, lt-ltb limit (length c.clear) h))

      module _ (m : length c.clear ≤ limit) where
        pub row_7 : length out < size → ended (refused 7) out ≡ write_file C c out
        unfolding write_rows
        row_7 h = ends (refused 7) (first_answers (write_rows C c (length out)) (done (size ∷ [])) 2 (ap not k, (le-ltb limit (length c.clear) m, lt-ltb (length out) size h)))

        module _ (r : size ≤ length out) where
          pub row_8 : again ≡ true → ended (refused 8) out ≡ write_file C c out
          unfolding write_rows
          row_8 e =
              ends (refused 8)
              (first_answers (write_rows C c (length out)) (done (size ∷ [])) 3 (ap not k, (le-ltb limit (length c.clear) m, (le-ltb (length out) size r, e))))

          -- the file, of its length, at the front of the buffer
          pub no_row : again ≡ false → (f : List ℕ) → f ≡ file_of C c → length f ≡ size → ended (done (size ∷ [])) (f ++ drop size out) ≡ write_file C c out
          unfolding write_rows
          no_row e f q l =
              ap (λ (x : List ℕ). ended (done (size ∷ [])) (x ++ drop size out)) (sym (take_all size f (omega arith)) ∙ ap (take size) q)
              ∙ ends (done (size ∷ []))
              (none_answers (write_rows C c (length out)) (done (size ∷ [])) (ap not k, (le-ltb limit (length c.clear) m, (le-ltb (length out) size r, (e, tt)))))

-- What becomes of the first n places of a buffer keeps their length.
pub front_length : (v d : List ℕ) (n : ℕ) → n ≤ length d → length (v ++ drop n d) ≡ length d → length v ≡ n
front_length v d n h e = let s = simp (length-append, length-drop) at e in omega arith

-- v becomes the first n places of a buffer, and then s the rest.
pub two-parts : (v s d : List ℕ) (n : ℕ) → length v ≡ n →
    let xs = v ++ drop n d in
    take n xs ++ (s ++ drop (length xs - n) (drop n xs)) ≡ v ++ s
two-parts v s d n l = placed-rest v s d (v ++ drop n d) n (let e : n ≡ 0 + length v = omega arith in ap (λ (m : ℕ). v ++ drop m d) e) l
