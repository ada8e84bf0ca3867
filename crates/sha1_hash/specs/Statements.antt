-- What holds of the definitions. `proofs/Laws.antt` proves each under its name.
-- Assumes nothing.
use Rattle.std.specs.Prelude.{◌≡◌, ℕ, List, ◌++◌, length}
use Rattle.octets.specs.Bytes.{Bytes}
use Rattle.sha1_hash.specs.Message.{sha1}
use Rattle.sha1_hash.specs.Running.{Sha1, Running, Updated, finished}

-- The digest has 20 bytes.
abbrev pub TwentyBytes : Type 0
TwentyBytes = (m : List ℕ) → (length (sha1 m) ≡ 20) × Bytes (sha1 m)

-- Updated with s, a state after the message m is one after m and s.
abbrev pub RunsOn : Type 0
RunsOn = (t r : Sha1) (m s : List ℕ) → Running t m → Updated t s r → Running r (m ++ s)

-- A state after the message m gives the digest of m at the end.
abbrev pub EndsInDigest : Type 0
EndsInDigest = (t : Sha1) (m : List ℕ) → Running t m → finished t ≡ sha1 m
