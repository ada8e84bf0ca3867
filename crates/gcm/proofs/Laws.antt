-- Opening is a partial inverse of sealing, over any block cipher on 16 bytes.
-- Assumes nothing.
use Prim.Native.Nat.{ℕ, ◌+◌, ◌-◌}
use mathlib.Core.Path.{◌≡◌, sym, ◌∙◌, ap, ap₂}
use mathlib.Core.Bool.{true}
use mathlib.Core.List.{List, ◌++◌}
use native.Mathlib.Omega.{arith}
use lib.ListN.{length, take, drop, length-append, length-drop, take-append-drop}
use lib.Seq.{take_at, drop_at, length-take-le}
use Rattle.octets.specs.Bytes.{same}
use Rattle.octets.specs.BigEndian.{be}
use Rattle.octets.proofs.BigEndian.{length-be}
use Rattle.octets.proofs.Bytes.{below_append, below_take, bytes-be}
use Rattle.octets.proofs.Equality.{same_self, same_eq}
use Rattle.ctr.specs.Ctr.{inc32}
use Rattle.ctr.proofs.Texts.{length-ctr, ctr_twice, ctr-bytes}
use Rattle.gcm.specs.Gcm.{ciphertext_of, crypt, subkey, hashed, j0, tag, seal, good, plain}
use Rattle.gcm.specs.Statements.{SealedOpens, OpenedWasSealed, Lengths, KeepsBytes}

module _ (e : List ℕ → List ℕ) (le : (s : List ℕ) → length (e s) ≡ 16) where
  pub length-crypt : (iv s : List ℕ) → length (crypt e iv s) ≡ length s
  unfolding crypt
  length-crypt iv s = length-ctr inc32 e le (inc32 (j0 iv)) s

  pub crypt_twice : (iv s : List ℕ) → crypt e iv (crypt e iv s) ≡ s
  unfolding crypt
  crypt_twice iv s = ctr_twice inc32 e le (inc32 (j0 iv)) s

  pub length-tag : (iv a c : List ℕ) → length (tag e iv a c) ≡ 16
  unfolding tag
  length-tag iv a c = length-ctr inc32 e le (j0 iv) (be 16 (hashed (subkey e) a c)) ∙ length-be 16 (hashed (subkey e) a c)

  -- ---- what is sealed

  module _ (iv a p : List ℕ) where
    pub length-seal : length (seal e iv a p) ≡ length p + 16
    unfolding seal
    length-seal = length-append (crypt e iv p) (tag e iv a (crypt e iv p)) ∙ ap₂ (λ (x y : ℕ). x + y) (length-crypt iv p) (length-tag iv a (crypt e iv p))

    text : take (length (seal e iv a p) - 16) (seal e iv a p) ≡ crypt e iv p
    unfolding seal
    text = take_at (crypt e iv p) (tag e iv a (crypt e iv p)) (length (seal e iv a p) - 16) (omega (arith, length-crypt iv p, length-seal))

    end : drop (length (seal e iv a p) - 16) (seal e iv a p) ≡ tag e iv a (crypt e iv p)
    unfolding seal
    end = drop_at (crypt e iv p) (tag e iv a (crypt e iv p)) (length (seal e iv a p) - 16) (omega (arith, length-crypt iv p, length-seal))

    -- A buffer of n bytes and a tag's room, whose first n bytes became the ciphertext y, with the tag written behind.
    pub sealed_front : (y d : List ℕ) (n : ℕ) → length p ≡ n → length d ≡ n + 16 → y ≡ crypt e iv p
        → ciphertext_of (y ++ drop n d) ++ tag e iv a (ciphertext_of (y ++ drop n d)) ≡ seal e iv a p
    unfolding seal
    sealed_front y d n h k q =
        let l : length y ≡ n = ap length q ∙ length-crypt iv p ∙ h in
        let m = length (y ++ drop n d) - 16 in
        let t : take m (y ++ drop n d) ≡ y = take_at y (drop n d) m (omega (arith, l, k, length-append y (drop n d), length-drop n d)) in
        ap (λ (x : List ℕ). x ++ tag e iv a x) (t ∙ q)

    pub good-seal : good e iv a (seal e iv a p) ≡ true
    unfolding good
    good-seal = ap₂ (λ (x y : List ℕ). same (tag e iv a x) y) text end ∙ same_self (tag e iv a (crypt e iv p))

    pub plain-seal : plain e iv (seal e iv a p) ≡ p
    unfolding plain
    plain-seal = ap (crypt e iv) text ∙ crypt_twice iv p

  -- ---- what opens

  pub length-plain : (iv s : List ℕ) → length (plain e iv s) ≡ length s - 16
  unfolding plain
  length-plain iv s = length-crypt iv (take (length s - 16) s) ∙ length-take-le (length s - 16) s (omega arith)

  pub seal-plain : (iv a s : List ℕ) → good e iv a s ≡ true → s ≡ seal e iv a (plain e iv s)
  unfolding good plain seal
  seal-plain iv a s h =
      let n = length s - 16 in
      let t = same_eq (tag e iv a (take n s)) (drop n s) h in
      sym (rw (crypt_twice iv (take n s)) (ap (λ (x : List ℕ). take n s ++ x) t ∙ take-append-drop n s))

-- ---- the statements

pub sealed-opens : SealedOpens
sealed-opens e le iv a p = (good-seal e le iv a p, plain-seal e le iv a p)

pub opened_was_sealed : OpenedWasSealed
opened_was_sealed e le iv a s h = seal-plain e le iv a s h

pub lengths : Lengths
lengths e le iv a p s = (length-seal e le iv a p, length-plain e le iv s)

pub keeps_bytes : KeepsBytes
unfolding crypt tag seal plain
keeps_bytes e bs iv a = (
  λ p h. below_append (ctr-bytes inc32 e bs (inc32 (j0 iv)) h) (ctr-bytes inc32 e bs (j0 iv) (bytes-be 16 _)),
  λ s h. ctr-bytes inc32 e bs (inc32 (j0 iv)) (below_take (length s - 16) h),
)
