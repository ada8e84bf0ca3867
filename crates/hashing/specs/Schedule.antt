-- The message schedule of a block over any rule for its words: FIPS 180-4, 6.1.2 and 6.2.2, item 1.
-- Assumes nothing.
use Rattle.std.specs.Prelude.{ℕ, zero, suc, ◌+◌, List, [], ◌∷◌, ◌++◌}

-- The first 16 words w of a schedule, and n more; `next v t` is W_t, of the words v before it.
unfoldable pub extended : (List ℕ → ℕ → ℕ) → List ℕ → ℕ → List ℕ
extended next w zero = w
extended next w (suc n) = let v = extended next w n in v ++ (next v (16 + n) ∷ [])
