-- Base32 of whole groups: lengths, and one group, character by character.
-- Assumes nothing.
use Prim.Native.Nat.{ℕ, ◌+◌, ◌-◌, ◌*◌, ◌/◌, ◌%◌}
use mathlib.Core.Path.{◌≡◌, refl, ap, ◌∙◌}
use mathlib.Core.List.{List, [], ◌∷◌, ◌++◌, map, map-append}
use native.Mathlib.Omega.{arith}
use lib.ListN.{length, get_or, length-map}
use Rattle.encoding.specs.Base32.{quintets, alphabet, letter, encode}
use Rattle.encoding.specs.Statements.{Base32Length}

length-quintets : (b : List ℕ) → length (quintets b) ≡ length b / 5 * 8
unfolding quintets
length-quintets [] = refl
length-quintets (a ∷ []) = refl
length-quintets (a ∷ b ∷ []) = refl
length-quintets (a ∷ b ∷ c ∷ []) = refl
length-quintets (a ∷ b ∷ c ∷ d ∷ []) = refl
length-quintets (a ∷ b ∷ c ∷ d ∷ e ∷ s) = omega (arith, length-quintets s)

pub base32_length : Base32Length
unfolding encode
base32_length b = length-map (quintets b) letter ∙ length-quintets b

pub encode_groups : (x : List ℕ) (n : ℕ) → length x ≡ 5 * n → length (encode x) ≡ 8 * n
encode_groups x n h = base32_length x ∙ omega arith

quintets-append : (x y : List ℕ) (n : ℕ) → length x ≡ 5 * n → quintets (x ++ y) ≡ quintets x ++ quintets y
unfolding quintets
quintets-append [] y n h = refl
quintets-append (a ∷ []) y n h = absurd (omega arith)
quintets-append (a ∷ b ∷ []) y n h = absurd (omega arith)
quintets-append (a ∷ b ∷ c ∷ []) y n h = absurd (omega arith)
quintets-append (a ∷ b ∷ c ∷ d ∷ []) y n h = absurd (omega arith)
quintets-append (a ∷ b ∷ c ∷ d ∷ e ∷ x) y n h = ap (λ (l : List ℕ). quintets (a ∷ b ∷ c ∷ d ∷ e ∷ []) ++ l) (quintets-append x y (n - 1) (omega arith))

pub encode-append : (x y : List ℕ) (n : ℕ) → length x ≡ 5 * n → encode (x ++ y) ≡ encode x ++ encode y
unfolding encode
encode-append x y n h = ap (map letter) (quintets-append x y n h) ∙ map-append letter (quintets x) (quintets y)

-- Letters of the table z.
pub five_bytes : (z : List ℕ) → z ≡ alphabet → (a b c d e : ℕ) {p q r s t u v w : ℕ} → p ≡ get_or z (a / 8) 0 → q ≡ get_or z (a % 8 * 4 + b / 64) 0 → r ≡ get_or z (b / 2 % 32) 0 → s ≡ get_or z (b % 2 * 16 + c / 16) 0
    → t ≡ get_or z (c % 16 * 2 + d / 128) 0 → u ≡ get_or z (d / 4 % 32) 0 → v ≡ get_or z (d % 4 * 8 + e / 32) 0 → w ≡ get_or z (e % 32) 0
    → p ∷ q ∷ r ∷ s ∷ t ∷ u ∷ v ∷ w ∷ [] ≡ encode (a ∷ b ∷ c ∷ d ∷ e ∷ [])
unfolding encode quintets letter
five_bytes z table a b c d e f g h i j k l m = rw (f, g, h, i, j, k, l, m, table)
