-- Registers of two words each, and the byte strings that the definitions speak of.
-- Assumes nothing.
use Prim.Native.Nat.{ℕ, ◌+◌, ◌*◌, ◌/◌, ◌^◌, ◌<◌}
use mathlib.Core.Path.{◌≡◌, refl, sym, ap, ap₂, ◌∙◌}
use mathlib.Core.Bool.{true, ◌&&◌}
use mathlib.Core.List.{List, [], ◌∷◌, ◌++◌, append-nil}
use native.Mathlib.Nat.{mod-eq_of_lt}
use native.Mathlib.Omega.{arith}
use lib.Dec.{eqb}
use lib.ListN.{length, take, drop, take-append-drop, get_or}
use lib.Seq.{drop-drop, paste, take-length}
use lib.Bits.{bit_xor, xor_zero_r}
use Rattle.octets.specs.Bytes.{same, placed}
use Rattle.octets.specs.BigEndian.{be}
use Rattle.octets.specs.Words.{b0, b1, b2, b3, word_bytes}
use Rattle.octets.specs.Xors.{xors}
use Rattle.octets.proofs.BigEndian.{be-word}
use Rattle.octets.proofs.Equality.{same_self, same_eq}
use Rattle.octets.proofs.Lists.{drop_all, part-rest, placed-next, list_tab}
use Rattle.octets.proofs.Words.{xor_bytes, self, length-word_bytes, word_bytes-at}
use Rattle.aes_spec.specs.KeyExpansion.{key_expansion}
use Rattle.aes_spec.specs.Cipher.{cipher, aes}
use Rattle.aes.proofs.Ciphers.{under_key}
use Rattle.aes_inverse.specs.InverseCipher.{inv_cipher, inverse_aes}
use Rattle.aes_inverse.proofs.Ciphers.{inverse_under_key}
use Rattle.key_wrap.specs.KeyWrap.{initial_value, wrap_step, wrap, unwrap_step, unwrapped, good, plain}

-- ---- reading

pub begun : (a b c d e f g h : ℕ) (key : List ℕ) → length key ≡ 32 → word_bytes (a ∷ b ∷ c ∷ d ∷ []) ≡ take 16 (drop 0 key) → word_bytes (e ∷ f ∷ g ∷ h ∷ []) ≡ take 16 (drop 16 key)
    → word_bytes (0xa6a6a6a6 ∷ 0xa6a6a6a6 ∷ a ∷ b ∷ c ∷ d ∷ e ∷ f ∷ g ∷ h ∷ []) ≡ initial_value ++ key
unfolding word_bytes initial_value be
begun a b c d e f g h key l p q =
    ap (λ (x : List ℕ). initial_value ++ x) (ap₂ (λ (x y : List ℕ). x ++ y) p (q ∙ part-rest key 32 16 l) ∙ take-append-drop 16 key)

pub read_in : (a b c d e f g h i j k l : ℕ) (s : List ℕ) → length s ≡ 40
    → word_bytes (a ∷ b ∷ c ∷ d ∷ []) ≡ take 16 (drop 0 s) → word_bytes (e ∷ f ∷ g ∷ h ∷ []) ≡ take 16 (drop 16 s) → word_bytes (k ∷ l ∷ i ∷ j ∷ []) ≡ take 16 (drop 24 s)
    → word_bytes (a ∷ b ∷ c ∷ d ∷ e ∷ f ∷ g ∷ h ∷ i ∷ j ∷ []) ≡ s
unfolding word_bytes
read_in a b c d e f g h i j k l s n p q r =
    let u : drop 8 (word_bytes (k ∷ l ∷ i ∷ j ∷ [])) ≡ drop 16 (drop 16 s) = ap (drop 8) (r ∙ part-rest s 40 24 n) ∙ drop-drop 8 24 s ∙ sym (drop-drop 16 16 s) in
    ap₂ (λ (x y : List ℕ). x ++ y) p (ap₂ (λ (x y : List ℕ). x ++ y) q u ∙ take-append-drop 16 (drop 16 s)) ∙ take-append-drop 16 s

-- ---- the check value

same_front : (x y z : List ℕ) → length x ≡ length y → same (x ++ z) (y ++ z) ≡ same x y
unfolding same
same_front [] [] z l = same_self z
same_front [] (b ∷ y) z l = absurd (omega arith)
same_front (a ∷ x) [] z l = absurd (omega arith)
same_front (a ∷ x) (b ∷ y) z l = ap (λ t. eqb a b && t) (same_front x y z (omega arith))

pub checked : (x : List ℕ) → length x ≡ 10
    → same (word_bytes (get_or x 0 0 ∷ get_or x 1 0 ∷ 0 ∷ 0 ∷ [])) (word_bytes (0xa6a6a6a6 ∷ 0xa6a6a6a6 ∷ 0 ∷ 0 ∷ [])) ≡ same (take 8 (word_bytes x)) initial_value
unfolding word_bytes initial_value be
checked x l =
    same_front (word_bytes (get_or x 0 0 ∷ get_or x 1 0 ∷ [])) (word_bytes (0xa6a6a6a6 ∷ 0xa6a6a6a6 ∷ [])) (word_bytes (0 ∷ 0 ∷ [])) refl
    ∙ ap (λ (y : List ℕ). same (take 8 (word_bytes y)) initial_value) (sym (list_tab 10 x l))

-- ---- steps

be_eight : (n : ℕ) → n < 2 ^ 32 → be 8 n ≡ word_bytes (0 ∷ n ∷ [])
unfolding be word_bytes
be_eight n h =
    let e : n / 2 ^ 32 ≡ 0 = omega arith in
    be-word 4 n ∙ ap₂ (λ (x y : ℕ). be 4 x ++ word_bytes (y ∷ [])) e (mod-eq_of_lt h)

added : (v u n : ℕ) → n < 2 ^ 32 → xors (word_bytes (v ∷ u ∷ [])) (be 8 n) ≡ word_bytes (v ∷ bit_xor u n ∷ [])
unfolding xors word_bytes
added v u n h =
    let e = be_eight n h in
    let x = xor_bytes (self u) (self n) in
    ap (xors (word_bytes (v ∷ u ∷ []))) e
    ∙ cc (xor_zero_r (b0 v), xor_zero_r (b1 v), xor_zero_r (b2 v), xor_zero_r (b3 v), x.at0, x.at1, x.at2, x.at3)

module _ (x : List ℕ) (l : length x ≡ 10) where
  pub stepped : (cipher : List ℕ → List ℕ) (n p q r s : ℕ) → n < 2 ^ 32 → word_bytes (p ∷ q ∷ r ∷ s ∷ []) ≡ cipher (word_bytes (get_or x 0 0 ∷ get_or x 1 0 ∷ get_or x 2 0 ∷ get_or x 3 0 ∷ []))
      → word_bytes (p ∷ bit_xor q n ∷ get_or x 4 0 ∷ get_or x 5 0 ∷ get_or x 6 0 ∷ get_or x 7 0 ∷ get_or x 8 0 ∷ get_or x 9 0 ∷ r ∷ s ∷ []) ≡ wrap_step cipher n (word_bytes x)
  unfolding wrap_step word_bytes
  stepped cipher n p q r s small y =
      let kept = word_bytes (get_or x 4 0 ∷ get_or x 5 0 ∷ get_or x 6 0 ∷ get_or x 7 0 ∷ get_or x 8 0 ∷ get_or x 9 0 ∷ []) in
      ap (λ (l : List ℕ). l ++ (kept ++ word_bytes (r ∷ s ∷ []))) (sym (added p q n small))
      ∙ ap (λ (l : List ℕ). xors (take 8 l) (be 8 n) ++ (kept ++ drop 8 l)) y
      ∙ ap (λ (l : List ℕ). wrap_step cipher n (word_bytes l)) (sym (list_tab 10 x l))

  pub stepped_back : (cipher : List ℕ → List ℕ) (n p q r s : ℕ) → n < 2 ^ 32 → word_bytes (p ∷ q ∷ r ∷ s ∷ []) ≡ cipher (word_bytes (get_or x 0 0 ∷ bit_xor (get_or x 1 0) n ∷ get_or x 8 0 ∷ get_or x 9 0 ∷ []))
      → word_bytes (p ∷ q ∷ r ∷ s ∷ get_or x 2 0 ∷ get_or x 3 0 ∷ get_or x 4 0 ∷ get_or x 5 0 ∷ get_or x 6 0 ∷ get_or x 7 0 ∷ []) ≡ unwrap_step cipher n (word_bytes x)
  unfolding unwrap_step word_bytes
  stepped_back cipher n p q r s small y =
      ap (λ (l : List ℕ). l ++ word_bytes (get_or x 2 0 ∷ get_or x 3 0 ∷ get_or x 4 0 ∷ get_or x 5 0 ∷ get_or x 6 0 ∷ get_or x 7 0 ∷ []))
      (y ∙ ap (λ (l : List ℕ). cipher (l ++ word_bytes (get_or x 8 0 ∷ get_or x 9 0 ∷ []))) (sym (added (get_or x 0 0) (get_or x 1 0) n small)))
      ∙ ap (λ (l : List ℕ). unwrap_step cipher n (word_bytes l)) (sym (list_tab 10 x l))

-- ---- writing

-- One word more.
pub word_stored : (w d l r : List ℕ) (i : ℕ) → i < length w → l ≡ paste d 0 (word_bytes w) (4 * i) → r ≡ placed (word_bytes (get_or w i 0 ∷ [])) (4 * i) l
    → r ≡ paste d 0 (word_bytes w) (4 * (i + 1))
word_stored w d l r i h e g =
    let p = word_bytes (get_or w i 0 ∷ []) in
    let n : length p ≡ 4 = length-word_bytes (get_or w i 0 ∷ []) in
    let q : p ≡ take (length p) (drop (4 * i) (word_bytes w)) = sym (word_bytes-at w i h) ∙ ap (λ (j : ℕ). take j (drop (4 * i) (word_bytes w))) (sym n) in
    let z : 4 * i ≡ 0 + 4 * i = omega arith in
    let j : 4 * i + length p ≡ 4 * (i + 1) = omega arith in
    g ∙ ap₂ (placed p) z e ∙ placed-next (word_bytes w) d p 0 (4 * i) (omega arith) (omega (arith, length-word_bytes w)) q ∙ ap (paste d 0 (word_bytes w)) j

pub words_stored : (w d : List ℕ) (n : ℕ) → length d ≡ 4 * length w → n ≡ length w → paste d 0 (word_bytes w) (4 * n) ≡ word_bytes w
words_stored w d n l e =
    let b = word_bytes w in
    let f : 4 * n ≡ length b = omega (arith, length-word_bytes w) in
    let g : drop (0 + length b) d ≡ [] = drop_all (0 + length b) d (omega (arith, length-word_bytes w)) in
    ap (paste d 0 b) f ∙ ap₂ (λ (x y : List ℕ). x ++ y) (take-length b) g ∙ append-nil b

pub key_stored : (x : List ℕ) → length x ≡ 10 → word_bytes (take 8 (drop 2 x)) ≡ drop 8 (word_bytes x)
unfolding word_bytes
key_stored x l = rw (list_tab 10 x l)

-- ---- the registers after all steps back

module _ (d : List ℕ → List ℕ) (c x : List ℕ) (e : x ≡ unwrapped d c) where
  pub good_value : good d c ≡ true → take 8 x ≡ initial_value
  unfolding good
  good_value g = ap (take 8) e ∙ same_eq (take 8 (unwrapped d c)) initial_value g

  pub plain_value : drop 8 x ≡ plain d c
  unfolding plain
  plain_value = ap (drop 8) e

-- ---- under an expanded key

module _ (kek w : List ℕ) (h : w ≡ key_expansion 8 kek ++ []) where
  pub wrapped_under : (key : List ℕ) → wrap (cipher 14 w) key ≡ wrap (aes 8 kek) key
  wrapped_under key = ap (λ (e : List ℕ → List ℕ). wrap e key) (under_key kek w h)

  pub unwrapped_under : (s : List ℕ) → unwrapped (inv_cipher 14 w) s ≡ unwrapped (inverse_aes 8 kek) s
  unwrapped_under s = ap (λ (d : List ℕ → List ℕ). unwrapped d s) (inverse_under_key kek w h)

  pub good_under_lem : (s x : List ℕ) → x ≡ unwrapped (inv_cipher 14 w) s → same (take 8 x) initial_value ≡ good (inverse_aes 8 kek) s
  unfolding good
  good_under_lem s x e = ap (λ (l : List ℕ). same (take 8 l) initial_value) (e ∙ unwrapped_under s)
