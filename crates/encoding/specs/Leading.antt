-- What the contracts of the check of a base64url text cite.
-- Assumes nothing.
use Rattle.std.specs.Prelude.{ℕ, ◌≤◌, ◌<◌, List, ◌∷◌, length, get_or}
use Rattle.encoding.specs.Base64url.{value}

-- The first n characters of t are of the alphabet, and the one behind them, if there is one, is not.
pub record Leading (n : ℕ) (t : List ℕ) : Type 0 where
  pub inside : n ≤ length t
  pub letters : (i : ℕ) → i < n → value (get_or t i 0) < 64
  pub next : n < length t → 64 ≤ value (get_or t n 0)

-- The character before place i of t; before the first stands none, for which 0 is put.
abbrev pub before : List ℕ → ℕ → ℕ
before t i = get_or (0 ∷ t) i 0
