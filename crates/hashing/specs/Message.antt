-- What SHA-1 and SHA-256 share: a message, a byte string, is padded to whole blocks of 64 bytes (FIPS 180-4, 5.1.1), cut into blocks (5.2.1),
-- and hashed block by block (6.1.2 and 6.2.2) by a function `compress` of the hash value so far and a block.
-- Assumes nothing.
use Rattle.std.specs.Prelude.{ℕ, zero, suc, ◌-◌, ◌*◌, ◌/◌, ◌%◌, List, ◌∷◌, ◌++◌, length, take, drop, replicate}
use Rattle.octets.specs.BigEndian.{be}
use Rattle.octets.specs.Words.{word_bytes}

-- 5.1.1: for a message of n bytes, how many zero bytes follow the byte 0x80: the fewest such that eight bytes more complete a block.
abbrev pub zeros : ℕ → ℕ
zeros n = (119 - n % 64) % 64

-- 5.1.1: what is appended to a message of n bytes. The standard has only messages of fewer than 2^64 bits; here the number of
-- bits is taken modulo 2^64.
unfoldable pub padding : ℕ → List ℕ
padding n = 0x80 ∷ (replicate (zeros n) 0 ++ be 8 (8 * n))

unfoldable pub padded : List ℕ → List ℕ
padded m = m ++ padding (length m)

-- 5.2.1: the block i of s, the first being 0.
abbrev pub block : List ℕ → ℕ → List ℕ
block s i = take 64 (drop (64 * i) s)

module _ (compress : List ℕ → List ℕ → List ℕ) where
  -- 6.1.2 and 6.2.2: the hash value after the first n blocks of s, from h on
  unfoldable pub hash_from : List ℕ → List ℕ → ℕ → List ℕ
  hash_from h s zero = h
  hash_from h s (suc n) = compress (hash_from h s n) (block s n)

  -- the message digest, from the initial hash value h on: the bytes of the words of the last hash value, of each the highest first (3.1)
  unfoldable pub digest : List ℕ → List ℕ → List ℕ
  digest h m = word_bytes (hash_from h (padded m) (length (padded m) / 64))
