-- The laws of a word and its bytes.
-- Assumes nothing.
use Prim.Native.Nat.{ℕ, zero, suc, ◌+◌, ◌*◌, ◌/◌, ◌%◌, ◌^◌, ◌<◌}
use mathlib.Core.Path.{◌≡◌, refl, ◌∙◌, ap, ap₂}
use mathlib.Core.List.{List, [], ◌∷◌}
use native.Mathlib.Nat.{div-div-eq-div-mul, not-suc-le-zero, le_of_suc-le-suc}
use native.Mathlib.Omega.{arith}
use lib.ListN.{length, take, drop, get_or}
use lib.Bits.{bit_xor, xor_shr, xor_mod}
use Rattle.std.specs.Int.{w32, to_be_bytes}
use Rattle.octets.specs.Words.{word, b0, b1, b2, b3, HasBytes, word_bytes}

-- A word that is put together of bytes has those bytes.
pub bytes_of_word : {w : ℕ} (a b c d : ℕ) → a < 256 → b < 256 → c < 256 → d < 256 → w ≡ word a b c d → HasBytes w a b c d
bytes_of_word a b c d ha hb hc hd e = record { at0 = omega arith; at1 = omega arith; at2 = omega arith; at3 = omega arith }

-- A number is put together of its bytes.
pub parts : (w : ℕ) → w ≡ word (b0 w) (b1 w) (b2 w) (b3 w)
parts w = omega (arith, div-div-eq-div-mul w 256 256, div-div-eq-div-mul w 65536 256)

pub top : (w : ℕ) → w / 256 ≡ (b0 w * 256 + b1 w) * 256 + b2 w
top w = omega (arith, div-div-eq-div-mul w 256 256, div-div-eq-div-mul w 65536 256)

pub from : {w a b c d : ℕ} → HasBytes w a b c d → w ≡ word a b c d
from {w} h = parts w ∙ omega (arith, h.at0, h.at1, h.at2, h.at3)

-- The bytes of a sum of words.
pub xor_bytes : {v w a b c d e f g h : ℕ} → HasBytes v a b c d → HasBytes w e f g h → HasBytes (bit_xor v w) (bit_xor a e) (bit_xor b f) (bit_xor c g) (bit_xor d h)
xor_bytes {v} {w} p q = record {
  at0 = xor_shr v w 24 ∙ ap₂ bit_xor p.at0 q.at0;
  at1 = ap (λ (x : ℕ). x % 2 ^ 8) (xor_shr v w 16) ∙ xor_mod (v / 2 ^ 16) (w / 2 ^ 16) 8 ∙ ap₂ bit_xor p.at1 q.at1;
  at2 = ap (λ (x : ℕ). x % 2 ^ 8) (xor_shr v w 8) ∙ xor_mod (v / 2 ^ 8) (w / 2 ^ 8) 8 ∙ ap₂ bit_xor p.at2 q.at2;
  at3 = xor_mod v w 8 ∙ ap₂ bit_xor p.at3 q.at3;
}

-- A word has its own bytes.
pub self : (w : ℕ) → HasBytes w (b0 w) (b1 w) (b2 w) (b3 w)
self w = record { at0 = refl; at1 = refl; at2 = refl; at3 = refl }

-- The same word, its bytes under other names.
pub renamed : {r a b c d a' b' c' d' : ℕ} → HasBytes r a b c d → a ≡ a' → b ≡ b' → c ≡ c' → d ≡ d' → HasBytes r a' b' c' d'
renamed h p q s t = record { at0 = h.at0 ∙ p; at1 = h.at1 ∙ q; at2 = h.at2 ∙ s; at3 = h.at3 ∙ t }

-- The bytes of four words.
pub bytes_are : {u v w x u0 u1 u2 u3 v0 v1 v2 v3 w0 w1 w2 w3 x0 x1 x2 x3 : ℕ} → HasBytes u u0 u1 u2 u3 → HasBytes v v0 v1 v2 v3 → HasBytes w w0 w1 w2 w3 → HasBytes x x0 x1 x2 x3
    → word_bytes (u ∷ v ∷ w ∷ x ∷ []) ≡ u0 ∷ u1 ∷ u2 ∷ u3 ∷ v0 ∷ v1 ∷ v2 ∷ v3 ∷ w0 ∷ w1 ∷ w2 ∷ w3 ∷ x0 ∷ x1 ∷ x2 ∷ x3 ∷ []
unfolding word_bytes
bytes_are p q r s = cc

pub length-word_bytes : (ws : List ℕ) → length (word_bytes ws) ≡ 4 * length ws
unfolding word_bytes
length-word_bytes [] = refl
length-word_bytes (w ∷ ws) = omega (arith, length-word_bytes ws)

-- The bytes of the word i.
pub word_bytes-at : (ws : List ℕ) (i : ℕ) → i < length ws → take 4 (drop (4 * i) (word_bytes ws)) ≡ word_bytes (get_or ws i 0 ∷ [])
unfolding word_bytes
word_bytes-at [] i h = absurd (not-suc-le-zero h)
word_bytes-at (w ∷ ws) zero h = refl
word_bytes-at (w ∷ ws) (suc i) h =
    let e : 4 * suc i ≡ suc (suc (suc (suc (4 * i)))) = omega arith in
    rw e (word_bytes-at ws i (le_of_suc-le-suc h))

-- What the library's `to_be_bytes` gives of a word.
pub word_bytes_one : (w : ℕ) → w < 2 ^ 32 → to_be_bytes w32 w ≡ word_bytes (w ∷ [])
unfolding word_bytes
word_bytes_one w h = let e : w / 2 ^ 24 % 256 ≡ w / 2 ^ 24 = omega arith in ap (λ (a : ℕ). a ∷ b1 w ∷ b2 w ∷ b3 w ∷ []) e
