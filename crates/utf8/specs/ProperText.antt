-- Proper text, as a name must be: well-formed UTF-8, with no zero byte and no '/'. First the test, then what it says in words.
-- Assumes nothing.
use Rattle.std.specs.Prelude.{◌≡◌, Bool, true, not, ◌&&◌, List, [], ◌∷◌, ℕ, ◌<◌, eqb, length, get_or}
use Rattle.utf8.specs.Utf8.{well_formed, Encoding}

-- The test that no number of the list is b.
unfoldable pub lacks : ℕ → List ℕ → Bool
lacks b [] = true
lacks b (a ∷ s) = not (eqb a b) && lacks b s

-- '/' is 2F.
unfoldable pub proper_text : List ℕ → Bool
proper_text s = well_formed s && lacks 0x00 s && lacks 0x2f s

-- No number of the list is b.
abbrev pub Lacks : ℕ → List ℕ → Type 0
Lacks b s = (i : ℕ) → i < length s → get_or s i 0 ≡ b → ⊥

-- The encoding of some list of scalar values, with no zero byte and no '/'.
abbrev pub ProperText : List ℕ → Type 0
ProperText s = Encoding s × Lacks 0x00 s × Lacks 0x2f s
