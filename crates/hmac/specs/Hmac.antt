-- HMAC: FIPS 198-1, section 4, table 1, over a hash function H whose blocks have 64 bytes, and its digests no more. The standard has only texts
-- of fewer than 2^64 - 512 bits.
-- Assumes nothing.
use Rattle.std.specs.Prelude.{ℕ, ◌-◌, List, ◌++◌, cond, length, replicate, leb}
use Rattle.octets.specs.Xors.{xors}
use Rattle.sha256.specs.Message.{sha256}

-- 2.3: the inner and the outer pad, of a block each.
abbrev pub ipad : List ℕ
ipad = replicate 64 0x36

abbrev pub opad : List ℕ
opad = replicate 64 0x5c

-- Filled up with zeros to a block.
unfoldable pub to_block : List ℕ → List ℕ
to_block s = s ++ replicate (64 - length s) 0

module _ (H : List ℕ → List ℕ) where
  -- steps 1 to 3: K0, which is the key k, or its hash where k is longer than a block, filled up with zeros to a block
  unfoldable pub key_block : List ℕ → List ℕ
  key_block k = to_block (cond (leb (length k) 64) k (H k))

  -- steps 4 to 9: the message authentication code of a text
  unfoldable pub hmac : List ℕ → List ℕ → List ℕ
  hmac k text = H (xors (key_block k) opad ++ H (xors (key_block k) ipad ++ text))

-- HMAC-SHA-256, of 32 bytes.
abbrev pub hmac_sha256 : List ℕ → List ℕ → List ℕ
hmac_sha256 = hmac sha256
