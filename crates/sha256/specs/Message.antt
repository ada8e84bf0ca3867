-- SHA-256 of a message, a byte string: FIPS 180-4, 5.3.3 and 6.2.
-- Assumes nothing.
use Rattle.std.specs.Prelude.{ℕ, List, [], ◌∷◌}
use Rattle.hashing.specs.Message.{digest}
use Rattle.sha256.specs.Compression.{compress}

-- 5.3.3: the initial hash value, the first 32 bits of the fractional parts of the square roots of the first eight primes.
unfoldable pub initial : List ℕ
initial =
    0x6a09e667 ∷ 0xbb67ae85 ∷ 0x3c6ef372 ∷ 0xa54ff53a ∷ 0x510e527f ∷ 0x9b05688c ∷ 0x1f83d9ab ∷ 0x5be0cd19 ∷ []

-- 6.2.2: the message digest, of 32 bytes.
unfoldable pub sha256 : List ℕ → List ℕ
sha256 m = digest compress initial m
