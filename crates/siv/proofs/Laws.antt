-- Opening is a partial inverse of sealing, over any block cipher on 16 bytes.
-- Assumes nothing.
use Prim.Native.Nat.{ℕ, ◌+◌, ◌-◌}
use mathlib.Core.Path.{◌≡◌, sym, ◌∙◌, ap, ap₂}
use mathlib.Core.Bool.{true}
use mathlib.Core.List.{List, [], ◌∷◌, ◌++◌}
use native.Mathlib.Omega.{arith}
use lib.ListN.{length, take, drop, length-append, length-drop, take-append-drop}
use lib.Seq.{take_at, drop_at}
use Rattle.octets.specs.Bytes.{Bytes, same}
use Rattle.octets.proofs.Bytes.{below_append, below_drop}
use Rattle.octets.proofs.Equality.{same_self, same_eq}
use Rattle.ctr.specs.Ctr.{inc128, BlockCipher}
use Rattle.ctr.proofs.Texts.{length-ctr, ctr_twice, ctr-bytes}
use Rattle.octets.specs.Xors.{xors}
use Rattle.siv.specs.Cmac.{cmac_from, cmac, dbl}
use Rattle.siv.specs.Siv.{s2v_last, s2v_from, s2v, counter_of, crypt, plain, seal, good}
use Rattle.siv.specs.Statements.{SealedOpens, OpenedWasSealed, Lengths, KeepsBytes}

module _ (mac : List ℕ → List ℕ) (lm : BlockCipher mac) where
  pub length-cmac : (m : List ℕ) → length (cmac mac m) ≡ 16
  unfolding cmac_from cmac
  length-cmac m = lm _

  length-s2v_from : (d s : List ℕ) (r : List (List ℕ)) → length (s2v_from mac d s r) ≡ 16
  unfolding s2v_last s2v_from
  length-s2v_from d s [] = length-cmac _
  length-s2v_from d s (t ∷ r) = length-s2v_from (xors (dbl d) (cmac mac s)) t r

  pub length-s2v : (ss : List (List ℕ)) → length (s2v mac ss) ≡ 16
  unfolding s2v
  length-s2v [] = length-cmac _
  length-s2v (s ∷ r) = length-s2v_from _ s r

module _ (enc : List ℕ → List ℕ) (le : BlockCipher enc) where
  pub length-crypt : (v x : List ℕ) → length (crypt enc v x) ≡ length x
  unfolding crypt
  length-crypt v x = length-ctr inc128 enc le (counter_of v) x

  crypt_twice : (v x : List ℕ) → crypt enc v (crypt enc v x) ≡ x
  unfolding crypt
  crypt_twice v x = ctr_twice inc128 enc le (counter_of v) x

  pub length-plain : (z : List ℕ) → length (plain enc z) ≡ length z - 16
  unfolding plain
  length-plain z = length-crypt (take 16 z) (drop 16 z) ∙ length-drop 16 z

module _ (mac enc : List ℕ → List ℕ) (lm : BlockCipher mac) (le : BlockCipher enc) (ads : List (List ℕ)) where
  iv : List ℕ → List ℕ
  iv p = s2v mac (ads ++ (p ∷ []))

  module _ (p : List ℕ) where
    front : take 16 (seal mac enc ads p) ≡ iv p
    unfolding seal iv
    front = take_at (s2v mac (ads ++ (p ∷ []))) (crypt enc (s2v mac (ads ++ (p ∷ []))) p) 16 (length-s2v mac lm (ads ++ (p ∷ [])))

    back : drop 16 (seal mac enc ads p) ≡ crypt enc (iv p) p
    unfolding seal iv
    back = drop_at (s2v mac (ads ++ (p ∷ []))) (crypt enc (s2v mac (ads ++ (p ∷ []))) p) 16 (length-s2v mac lm (ads ++ (p ∷ [])))

    pub length-seal : length (seal mac enc ads p) ≡ length p + 16
    unfolding seal
    length-seal =
        let v = s2v mac (ads ++ (p ∷ [])) in
        length-append v (crypt enc v p) ∙ omega (arith, length-s2v mac lm (ads ++ (p ∷ [])), length-crypt enc le v p)

    plain-seal : plain enc (seal mac enc ads p) ≡ p
    unfolding plain
    plain-seal = ap₂ (crypt enc) front back ∙ crypt_twice enc le (iv p) p

    good-seal : good mac enc ads (seal mac enc ads p) ≡ true
    unfolding good iv
    good-seal = ap₂ (λ (x y : List ℕ). same (s2v mac (ads ++ (x ∷ []))) y) plain-seal front ∙ same_self (s2v mac (ads ++ (p ∷ [])))

  seal-plain : (z : List ℕ) → good mac enc ads z ≡ true → z ≡ seal mac enc ads (plain enc z)
  unfolding good seal plain
  seal-plain z h =
      let p = crypt enc (take 16 z) (drop 16 z) in
      let v : s2v mac (ads ++ (p ∷ [])) ≡ take 16 z = same_eq _ _ h in
      sym (ap (λ (x : List ℕ). x ++ crypt enc x p) v ∙ ap (λ (x : List ℕ). take 16 z ++ x) (crypt_twice enc le (take 16 z) (drop 16 z)) ∙ take-append-drop 16 z)

-- ---- the statements

pub sealed-opens : SealedOpens
sealed-opens mac enc lm le ads p = (good-seal mac enc lm le ads p, plain-seal mac enc lm le ads p)

pub opened_was_sealed : OpenedWasSealed
opened_was_sealed mac enc lm le ads z h = seal-plain mac enc lm le ads z h

pub lengths : Lengths
lengths mac enc lm le ads p z = (length-seal mac enc lm le ads p, length-plain enc le z)

module _ (mac : List ℕ → List ℕ) (bs : (s : List ℕ) → Bytes (mac s)) where
  cmac-bytes : (m : List ℕ) → Bytes (cmac mac m)
  unfolding cmac_from cmac
  cmac-bytes m = bs _

  from_bytes : (d s : List ℕ) (r : List (List ℕ)) → Bytes (s2v_from mac d s r)
  unfolding s2v_last s2v_from
  from_bytes d s [] = cmac-bytes _
  from_bytes d s (t ∷ r) = from_bytes (xors (dbl d) (cmac mac s)) t r

  s2v-bytes : (ss : List (List ℕ)) → Bytes (s2v mac ss)
  unfolding s2v
  s2v-bytes [] = cmac-bytes _
  s2v-bytes (s ∷ r) = from_bytes _ s r

pub keeps_bytes : KeepsBytes
unfolding crypt seal plain
keeps_bytes mac enc ms es ads = (
  λ p h. below_append (s2v-bytes mac ms (ads ++ (p ∷ []))) (ctr-bytes inc128 enc es _ h),
  λ z h. ctr-bytes inc128 enc es _ (below_drop 16 h),
)
