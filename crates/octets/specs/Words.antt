-- Words: numbers below 2^32, of four bytes, the first the highest.
-- Assumes nothing.
use Rattle.std.specs.Prelude.{ℕ, zero, suc, ◌+◌, ◌*◌, ◌/◌, ◌%◌, ◌^◌, ◌≡◌, List, [], ◌∷◌, ◌++◌, get_or}

abbrev pub word : ℕ → ℕ → ℕ → ℕ → ℕ
word a b c d = ((a * 256 + b) * 256 + c) * 256 + d

-- The bytes of a word.
abbrev pub b0 : ℕ → ℕ
b0 w = w / 2 ^ 24

abbrev pub b1 : ℕ → ℕ
b1 w = w / 2 ^ 16 % 2 ^ 8

abbrev pub b2 : ℕ → ℕ
b2 w = w / 2 ^ 8 % 2 ^ 8

abbrev pub b3 : ℕ → ℕ
b3 w = w % 2 ^ 8

-- The word w has the bytes a, b, c and d.
pub record HasBytes (w a b c d : ℕ) : Type 0 where
  pub at0 : b0 w ≡ a
  pub at1 : b1 w ≡ b
  pub at2 : b2 w ≡ c
  pub at3 : b3 w ≡ d

-- The word of the four bytes of s from the place `at` on.
abbrev pub word_at : List ℕ → ℕ → ℕ
word_at s at = word (get_or s at 0) (get_or s (at + 1) 0) (get_or s (at + 2) 0) (get_or s (at + 3) 0)

-- The first n words of a byte string; bytes past its end count as 0.
unfoldable pub words : ℕ → List ℕ → List ℕ
words zero s = []
words (suc n) s = words n s ++ (word_at s (4 * n) ∷ [])

-- The bytes of words, one word after the other.
unfoldable pub word_bytes : List ℕ → List ℕ
word_bytes [] = []
word_bytes (w ∷ ws) = b0 w ∷ b1 w ∷ b2 w ∷ b3 w ∷ word_bytes ws
