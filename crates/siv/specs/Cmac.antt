-- SP 800-38B: CMAC with a tag of 16 bytes; e is the block cipher under its key, on 16 bytes. To add is exclusive or.
-- Assumes nothing.
use Rattle.std.specs.Prelude.{ℕ, zero, suc, ◌-◌, ◌*◌, ◌/◌, ◌%◌, ◌^◌, List, ◌∷◌, ◌++◌, cond, take, drop, length, replicate, eqb}
use Rattle.std.specs.Int.Bits.{bit_xor}
use Rattle.octets.specs.Xors.{xors}
use Rattle.octets.specs.BigEndian.{int, be}

-- 6.1, steps 2 and 3 (RFC 5297, 2.3): one bit to the left, and R, which is 0x87 (5.3), is added if the bit that falls out is 1.
unfoldable pub dbl : List ℕ → List ℕ
dbl x = be 16 (bit_xor (int x * 2 % 2 ^ 128) (int x / 2 ^ 127 * 0x87))

-- 6.2, step 4 (RFC 5297, 2.1): a block of fewer than 16 bytes, filled up with a bit 1 and then zeros.
unfoldable pub pad : List ℕ → List ℕ
pad x = x ++ (0x80 ∷ replicate (15 - length x) 0)

module _ (e : List ℕ → List ℕ) where
  -- 6.1: the subkeys.
  unfoldable pub subkey1 : List ℕ
  subkey1 = dbl (e (replicate 16 0))

  unfoldable pub subkey2 : List ℕ
  subkey2 = dbl subkey1

  -- 6.2, step 6: C after the first n blocks of m, from C = c on.
  unfoldable pub chain : List ℕ → List ℕ → ℕ → List ℕ
  chain c m zero = c
  chain c m (suc n) = chain (e (xors c (take 16 m))) (drop 16 m) n

  -- 6.2, step 4: M(n) of the last block m, full or not: a subkey is added.
  unfoldable pub last_block : List ℕ → List ℕ
  last_block m = cond (eqb (length m) 16) (xors subkey1 m) (xors subkey2 (pad m))

  -- 6.2, step 2: how many blocks come before the last one; an empty message has one block.
  abbrev pub before : List ℕ → ℕ
  before m = (length m - 1) / 16

  -- 6.2, steps 2 to 6: C(n), of C = c and the rest m of the message, which is empty only if the message is.
  unfoldable pub cmac_from : List ℕ → List ℕ → List ℕ
  cmac_from c m = e (xors (chain c m (before m)) (last_block (drop (16 * before m) m)))

  -- 6.2: the tag of m.
  unfoldable pub cmac : List ℕ → List ℕ
  cmac m = cmac_from (replicate 16 0) m
