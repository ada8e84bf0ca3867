-- The state that a running hash of the code holds.
-- Assumes nothing.
use Rattle.std.specs.Prelude.{ℕ, List}
use Rattle.hashing.specs.Running.{State}
use Rattle.hashing.specs.declared.running.Hash.{Hash}

-- `words_of` says which words a hash value holds.
abbrev pub state_of : {V : Type 0} → (V → List ℕ) → Hash V → State
state_of words_of t = record { words = words_of t.words; waiting = t.waiting; length = t.length }
