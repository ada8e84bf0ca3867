-- What holds of the definitions. `proofs/Laws.antt` proves each under its name.
-- Assumes nothing.
use Rattle.std.specs.Prelude.{◌≡◌, ℕ, List, ◌++◌, length}
use Rattle.octets.specs.Bytes.{Bytes}
use Rattle.sha256.specs.Message.{sha256}
use Rattle.sha256.specs.Running.{Sha256, Running, Updated, finished}

-- The digest has 32 bytes.
abbrev pub ThirtyTwoBytes : Type 0
ThirtyTwoBytes = (m : List ℕ) → (length (sha256 m) ≡ 32) × Bytes (sha256 m)

-- Updated with s, a state after the message m is one after m and s.
abbrev pub RunsOn : Type 0
RunsOn = (t r : Sha256) (m s : List ℕ) → Running t m → Updated t s r → Running r (m ++ s)

-- A state after the message m gives the digest of m at the end.
abbrev pub EndsInDigest : Type 0
EndsInDigest = (t : Sha256) (m : List ℕ) → Running t m → finished t ≡ sha256 m
