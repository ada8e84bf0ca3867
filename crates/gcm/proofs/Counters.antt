-- The counter blocks of a nonce.
-- Assumes nothing.
use Prim.Native.Nat.{ℕ, ◌^◌, ◌<◌}
use mathlib.Core.Path.{◌≡◌, refl, sym, ◌∙◌, ap, ap₂}
use mathlib.Core.List.{List, [], ◌∷◌, ◌++◌, append-nil}
use native.Mathlib.Omega.{arith}
use lib.ListN.{length, get_or}
use lib.Seq.{take_all}
use Rattle.octets.specs.BigEndian.{be}
use Rattle.octets.specs.Words.{HasBytes, word_bytes}
use Rattle.octets.specs.Xors.{xors}
use Rattle.octets.proofs.BigEndian.{be_four, length-be}
use Rattle.octets.proofs.Lists.{take-tab}
use Rattle.octets.proofs.Words.{bytes_are, self}
use Rattle.ctr.specs.Ctr.{blocks, inc32, keystream, ctr}
use Rattle.ctr.proofs.Counters.{cb, inc_more}
use Rattle.gcm.specs.Gcm.{j0, subkey, hashed, tag}

module _ (iv : List ℕ) (l : length iv ≡ 12) where
  j0_is : j0 iv ≡ cb iv 1
  unfolding j0 be
  j0_is = refl

  pub first_is : inc32 (j0 iv) ≡ cb iv 2
  first_is = ap inc32 j0_is ∙ inc_more iv l 1

  pub counter_is : {a b c : ℕ} (n : ℕ) → n < 2 ^ 32
      → HasBytes a (get_or iv 0 0) (get_or iv 1 0) (get_or iv 2 0) (get_or iv 3 0)
      → HasBytes b (get_or iv 4 0) (get_or iv 5 0) (get_or iv 6 0) (get_or iv 7 0)
      → HasBytes c (get_or iv 8 0) (get_or iv 9 0) (get_or iv 10 0) (get_or iv 11 0)
      → word_bytes (a ∷ b ∷ c ∷ n ∷ []) ≡ cb iv n
  unfolding word_bytes
  counter_is n h p q r =
      bytes_are p q r (self n)
      ∙ sym (ap₂ (λ (s t : List ℕ). s ++ t) (sym (take_all 12 iv (omega arith)) ∙ take-tab 12 iv (omega arith)) (be_four n h))

  -- The tag is the hash with one block of the key stream added.
  pub tag_is : (e : List ℕ → List ℕ) (a c : List ℕ) → xors (be 16 (hashed (subkey e) a c)) (e (cb iv 1)) ≡ tag e iv a c
  unfolding tag ctr keystream
  tag_is e a c =
      let h = be 16 (hashed (subkey e) a c) in
      let n : blocks (length h) ≡ 1 = ap blocks (length-be 16 (hashed (subkey e) a c)) in
      sym (ap₂ (λ (x : List ℕ) (m : ℕ). xors h (keystream inc32 e x m)) j0_is n ∙ ap (xors h) (append-nil (e (cb iv 1))))
