-- What holds of HMAC-SHA-256. `proofs/Laws.antt` proves each under its name.
-- Assumes nothing.
use Rattle.std.specs.Prelude.{ℕ, ◌≤◌, ◌<◌, ◌≡◌, List, length}
use Rattle.octets.specs.Bytes.{Bytes}
use Rattle.sha256.specs.Message.{sha256}
use Rattle.hmac.specs.Hmac.{to_block, hmac_sha256}

-- A MAC has 32 bytes, under any key.
abbrev pub MacBytes : Type 0
MacBytes = (k text : List ℕ) → (length (hmac_sha256 k text) ≡ 32) × Bytes (hmac_sha256 k text)

-- A key of at most 64 bytes counts as if it were filled up with zeros to 64; a longer one as its hash.
abbrev pub KeysOfAnyLength : Type 0
KeysOfAnyLength =
    (k text : List ℕ)
    → (length k ≤ 64 → hmac_sha256 k text ≡ hmac_sha256 (to_block k) text) × (64 < length k → hmac_sha256 k text ≡ hmac_sha256 (sha256 k) text)
