-- The shortening threshold of a vault: up to so many characters a full name is stored as it is. First the test, then what it says in words.
-- Assumes nothing.
use Rattle.std.specs.Prelude.{◌≡◌, Bool, true, ◌&&◌, ◌↔◌, ℕ, ◌≤◌, leb}

-- The least threshold of a vault.
abbrev pub least_threshold : ℕ
least_threshold = 36

-- The highest.
abbrev pub most_threshold : ℕ
most_threshold = 220

unfoldable pub threshold_right : ℕ → Bool
threshold_right t = leb least_threshold t && leb t most_threshold

-- A threshold: 36 to 220.
abbrev pub ThresholdFits : ℕ → Type 0
ThresholdFits t = (36 ≤ t) × (t ≤ 220)

-- The test says what the words do.
abbrev pub ThresholdExactly : Type 0
ThresholdExactly = (t : ℕ) → (threshold_right t ≡ true) ↔ ThresholdFits t
