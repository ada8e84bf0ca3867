-- SHA-1 of a message, a byte string: FIPS 180-4, 5.3.1 and 6.1.
-- Assumes nothing.
use Rattle.std.specs.Prelude.{ℕ, List, [], ◌∷◌}
use Rattle.hashing.specs.Message.{digest}
use Rattle.sha1_hash.specs.Compression.{compress}

-- 5.3.1: the initial hash value.
unfoldable pub initial : List ℕ
initial = 0x67452301 ∷ 0xefcdab89 ∷ 0x98badcfe ∷ 0x10325476 ∷ 0xc3d2e1f0 ∷ []

-- 6.1.2: the message digest, of 20 bytes.
unfoldable pub sha1 : List ℕ → List ℕ
sha1 m = digest compress initial m
