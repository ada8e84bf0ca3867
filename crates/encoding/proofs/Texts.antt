-- Whole groups of base64url, and one group, character by character.
-- Assumes nothing.
use Prim.Native.Nat.{ℕ, ◌+◌, ◌-◌, ◌*◌, ◌/◌, ◌%◌, ◌≤◌, ◌<◌}
use mathlib.Core.Path.{◌≡◌, refl, ap, ◌∙◌}
use mathlib.Core.List.{List, [], ◌∷◌, ◌++◌, map, map-append}
use mathlib.Core.Bool.{Bool, true, false}
use native.Mathlib.Omega.{arith}
use lib.ListN.{length, take, get_or, length-map}
use Rattle.octets.proofs.Lists.{take-tab, list_tab}
use Rattle.encoding.specs.Base64url.{sextets, octets, alphabet, letter, value, pad_character, pad, encode, encoded_length}
use Rattle.encoding.proofs.Sextets.{sextets-append, octets-append, length-sextets, length-octets}
use Rattle.encoding.proofs.Padding.{pad-append}

-- ---- the encoder

pub encode_groups : (x : List ℕ) (n : ℕ) → length x ≡ 3 * n → length (encode false x) ≡ 4 * n
unfolding encode pad
encode_groups x n h = length-map (sextets x) letter ∙ omega (arith, length-sextets x)

pub encode-append : (p : Bool) (x y : List ℕ) (n : ℕ) → length x ≡ 3 * n → encode p (x ++ y) ≡ encode false x ++ encode p y
unfolding encode pad
encode-append p x y n h =
    ap (λ (l : List ℕ). pad p (map letter l)) (sextets-append x y n h) ∙ ap (pad p) (map-append letter (sextets x) (sextets y))
    ∙ pad-append p (map letter (sextets x)) (map letter (sextets y)) n (encode_groups x n h)

-- Letters of the table t.
module _ (t : List ℕ) (table : t ≡ alphabet) where
  module _ (a b c p q r s : ℕ) where
    pub three_bytes : p ≡ get_or t (a / 4) 0 → q ≡ get_or t (a % 4 * 16 + b / 16) 0 → r ≡ get_or t (b % 16 * 4 + c / 64) 0 → s ≡ get_or t (c % 64) 0
        → p ∷ q ∷ r ∷ s ∷ [] ≡ encode false (a ∷ b ∷ c ∷ [])
    unfolding encode pad sextets letter
    three_bytes d e f g = rw (d, e, f, g, table)

  module _ (a b p q r : ℕ) (d : p ≡ get_or t (a / 4) 0) (e : q ≡ get_or t (a % 4 * 16 + b / 16) 0) (f : r ≡ get_or t (b % 16 * 4) 0) where
    pub two_bytes : p ∷ q ∷ r ∷ [] ≡ encode false (a ∷ b ∷ [])
    unfolding encode pad sextets letter
    two_bytes = rw (d, e, f, table)

    pub two-bytes-padded : p ∷ q ∷ r ∷ pad_character ∷ [] ≡ encode true (a ∷ b ∷ [])
    unfolding encode pad sextets letter
    two-bytes-padded = rw (d, e, f, table)

  module _ (a p q : ℕ) (d : p ≡ get_or t (a / 4) 0) (e : q ≡ get_or t (a % 4 * 16) 0) where
    pub one_byte : p ∷ q ∷ [] ≡ encode false (a ∷ [])
    unfolding encode pad sextets letter
    one_byte = rw (d, e, table)

    pub one_byte_padded : p ∷ q ∷ pad_character ∷ pad_character ∷ [] ≡ encode true (a ∷ [])
    unfolding encode pad sextets letter
    one_byte_padded = rw (d, e, table)

-- ---- room for a text

-- In a buffer of m places that takes the text of n bytes.
pub room : (p : Bool) (n k m : ℕ) → n ≡ k → encoded_length p n ≤ m → ((k * 4 + 2) / 3 ≤ m) × (p ≡ true → (k + 2) / 3 * 4 ≤ m)
unfolding encoded_length
room true n k m e h = (omega arith, λ t. omega arith)
room false n k m e h = (omega arith, λ t. absurd (let z : ◌≡◌ {A = ℕ} 0 1 = cc in omega arith))

-- In the rest of the buffer, for the end of the text.
pub room-end : (p : Bool) (n m k l : ℕ) → encoded_length p n ≤ m → k ≡ n - 3 * (n / 3) → l ≡ m - 4 * (n / 3) → encoded_length p k ≤ l
unfolding encoded_length
room-end true n m k l h e f = omega arith
room-end false n m k l h e f = omega arith

-- ---- the decoder

-- The bytes of a text without padding.
abbrev pub bytes_of : List ℕ → List ℕ
bytes_of t = octets (map value t)

pub bytes_groups : (x : List ℕ) (n : ℕ) → length x ≡ 4 * n → length (bytes_of x) ≡ 3 * n
bytes_groups x n h = length-octets (map value x) ∙ omega (arith, length-map x value)

pub bytes-append : (x y : List ℕ) (n : ℕ) → length x ≡ 4 * n → bytes_of (x ++ y) ≡ bytes_of x ++ bytes_of y
bytes-append x y n h = ap octets (map-append value x y) ∙ octets-append (map value x) (map value y) n (length-map x value ∙ h)

module _ (t : List ℕ) {p q : ℕ} (a : p ≡ value (get_or t 0 0)) (b : q ≡ value (get_or t 1 0)) where
  pub two_characters : length t ≡ 2 → (p * 4 + q / 16) ∷ [] ≡ bytes_of t
  unfolding octets
  two_characters h = rw (list_tab 2 t h, a, b)

  module _ {r : ℕ} (c : r ≡ value (get_or t 2 0)) where
    pub three_characters : length t ≡ 3 → (p * 4 + q / 16) ∷ (q % 16 * 16 + r / 4) ∷ [] ≡ bytes_of t
    unfolding octets
    three_characters h = rw (list_tab 3 t h, a, b, c)

    pub four_characters : {s : ℕ} → s ≡ value (get_or t 3 0) → 4 ≤ length t → (p * 4 + q / 16) ∷ (q % 16 * 16 + r / 4) ∷ (r % 4 * 64 + s) ∷ [] ≡ bytes_of (take 4 t)
    unfolding octets
    four_characters d h = rw (take-tab 4 t h, a, b, c, d)

pub no_characters : (t : List ℕ) → length t < 2 → [] ≡ bytes_of t
unfolding octets
no_characters [] h = refl
no_characters (c ∷ []) h = refl
no_characters (c ∷ d ∷ t) h = absurd (omega arith)
