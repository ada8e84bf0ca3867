-- The first counter block of a synthetic IV, by words.
-- Assumes nothing.
use Prim.Native.Nat.{ℕ, ◌%◌, ◌^◌, ◌<◌}
use mathlib.Core.Path.{◌≡◌}
use mathlib.Core.List.{[], ◌∷◌}
use native.Mathlib.Omega.{arith}
use Rattle.octets.specs.Words.{b0, b1, b2, b3, HasBytes, word_bytes}
use Rattle.octets.proofs.Words.{bytes_are, self}
use Rattle.siv.specs.Siv.{counter_of}

-- A word with its highest bit cleared.
cleared : (w : ℕ) → w < 2 ^ 32 → HasBytes (w % 2147483648) (b0 w % 128) (b1 w) (b2 w) (b3 w)
cleared w h = record { at0 = omega arith; at1 = omega arith; at2 = omega arith; at3 = omega arith }

pub counter_is : (a b c d : ℕ) → c < 2 ^ 32 → d < 2 ^ 32
    → word_bytes (a ∷ b ∷ c % 2147483648 ∷ d % 2147483648 ∷ []) ≡ counter_of (word_bytes (a ∷ b ∷ c ∷ d ∷ []))
unfolding word_bytes counter_of
counter_is a b c d p q = bytes_are (self a) (self b) (cleared c p) (cleared d q)
