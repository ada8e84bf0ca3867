-- Counter mode (SP 800-38A, 6.5), over a block cipher e under its key and a function inc that gives the next counter block.
-- To add is exclusive or.
-- Assumes nothing.
use Rattle.std.specs.Prelude.{◌≡◌, ℕ, zero, suc, ◌+◌, ◌/◌, ◌%◌, ◌^◌, Bool, true, false, List, [], ◌++◌, length, take, drop}
use Rattle.octets.specs.Xors.{xors}
use Rattle.octets.specs.BigEndian.{int, be}

-- How many blocks n bytes need, the last one perhaps not full.
abbrev pub blocks : ℕ → ℕ
blocks n = (n + 15) / 16

-- SP 800-38D, 6.2: a block of 16 bytes with its last 32 bits, as a number, plus 1 modulo 2^32.
unfoldable pub inc32 : List ℕ → List ℕ
inc32 x = take 12 x ++ be 4 ((int (drop 12 x) + 1) % 2 ^ 32)

-- RFC 5297, 2.5 (SP 800-38A, B.1, with m = b = 128): a block of 16 bytes, as a number, plus 1 modulo 2^128: from all ones to zero.
unfoldable pub inc128 : List ℕ → List ℕ
inc128 x = be 16 ((int x + 1) % 2 ^ 128)

-- The step of a counter that is `wide`, of 128 bits, or of one that is not, of 32.
abbrev pub inc_of : Bool → List ℕ → List ℕ
inc_of true = inc128
inc_of false = inc32

-- The counter block that comes n after cb.
unfoldable pub after : (List ℕ → List ℕ) → ℕ → List ℕ → List ℕ
after inc zero cb = cb
after inc (suc n) cb = after inc n (inc cb)

-- All that the laws of the modes ask of a block cipher under its key: it gives 16 numbers, whatever it is given.
abbrev pub BlockCipher : (List ℕ → List ℕ) → Type 0
BlockCipher e = (s : List ℕ) → length (e s) ≡ 16

module _ (inc e : List ℕ → List ℕ) where
  -- The enciphered counter blocks, n of them from cb on.
  unfoldable pub keystream : List ℕ → ℕ → List ℕ
  keystream cb zero = []
  keystream cb (suc n) = e cb ++ keystream (inc cb) n

  -- The text x with the key stream from cb on added; the bytes of the key stream that the last block does not need are left out.
  unfoldable pub ctr : List ℕ → List ℕ → List ℕ
  ctr cb x = xors x (keystream cb (blocks (length x)))
