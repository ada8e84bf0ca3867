-- The place at which a text goes wrong, by the texts that are well formed: those of which `Right` holds.
-- Assumes nothing.
use Rattle.std.specs.Prelude.{List, ◌++◌, ℕ, suc, ◌≤◌, ◌<◌, length, take}

module _ (Right : List ℕ → Type 0) where
  -- The characters u have a well-formed continuation: some well-formed text begins with them.
  abbrev pub Begins : List ℕ → Type 0
  Begins u = (v : List ℕ) × Right (u ++ v)

  -- The place of the broken text t is p, counted from 0. The first p characters have a well-formed continuation. Those with the
  -- character at p have none; or there is no character at p, p is the length, and the text only ends too early.
  pub record Place (t : List ℕ) (p : ℕ) : Type 0 where
    pub broken : Right t → ⊥
    pub inside : p ≤ length t
    pub before : Begins (take p t)
    pub here : p < length t → Begins (take (suc p) t) → ⊥
