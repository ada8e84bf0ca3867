-- The associated data of a call that takes none or one string.
-- Assumes nothing.
use Rattle.std.specs.Prelude.{ℕ, List, [], ◌∷◌, Option, Some, None}

abbrev pub pieces : Option (List ℕ) → List (List ℕ)
pieces (Some ad) = ad ∷ []
pieces None = []
