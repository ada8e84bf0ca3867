-- The code's running state: what it says of the bytes that went in, and what any state, however it was made, gives.
-- Assumes nothing.
use Rattle.std.specs.Prelude.{ℕ, List}
use Rattle.hashing.specs.Running as hashing
use Rattle.sha256.specs.Compression.{compress}
use Rattle.sha256.specs.Message.{initial}
use Rattle.hashing.specs.declared.running.Hash.{Hash}
use Rattle.sha256.specs.declared.Words.{Words}

abbrev pub Sha256 : Type 0
Sha256 = Hash Words

abbrev pub state_of : Sha256 → hashing.State
state_of t = record { words = t.words.0; waiting = t.waiting; length = t.length }

-- A state after the message m.
abbrev pub Running : Sha256 → List ℕ → Type 0
Running t m = hashing.Running compress initial (state_of t) m

-- The state r after any state t and the bytes s.
abbrev pub Updated : Sha256 → List ℕ → Sha256 → Type 0
Updated t s r = hashing.Updated compress (state_of t) s (state_of r)

-- What any state gives at the end.
abbrev pub finished : Sha256 → List ℕ
finished t = hashing.finished compress (state_of t)
