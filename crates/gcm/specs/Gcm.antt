-- SP 800-38D with an IV (the nonce) of 12 bytes and a tag of 16; e is the block cipher under its key, on 16 bytes.
-- By 5.2.1.1 a text has at most 2^36 - 32 bytes and the associated data fewer than 2^61: beyond that nothing here is the
-- standard's. Opening (7.2) shares its steps 2, 3 and 5 to 7 with sealing (7.1, steps 1, 2 and 4 to 6).
-- Assumes nothing.
use Rattle.std.specs.Prelude.{ℕ, zero, suc, ◌-◌, ◌*◌, ◌/◌, List, [], ◌∷◌, ◌++◌, Bool, take, drop, length, replicate}
use Rattle.std.specs.Int.Bits.{bit_xor}
use Rattle.octets.specs.Bytes.{same}
use Rattle.octets.specs.BigEndian.{int, be}
use Rattle.ctr.specs.Ctr.{blocks, inc32, ctr}
use Rattle.gcm.specs.Field.{mul}

-- 6.4, algorithm 2, step 3: Y(i) of Y(i-1) and the block X(i).
abbrev pub ghash_step : ℕ → ℕ → List ℕ → ℕ
ghash_step h y x = mul (bit_xor y (int x)) h

-- 6.4, algorithm 2: from Y = y on, over the first n blocks of x.
unfoldable pub ghash_from : ℕ → ℕ → List ℕ → ℕ → ℕ
ghash_from h y x zero = y
ghash_from h y x (suc n) = ghash_from h (ghash_step h y (take 16 x)) (drop 16 x) n

-- 6.4: GHASH of a string of whole blocks, as a number.
unfoldable pub ghash : ℕ → List ℕ → ℕ
ghash h x = ghash_from h 0 x (length x / 16)

-- 7.1, step 4: filled up with zeros to whole blocks.
unfoldable pub pad : List ℕ → List ℕ
pad s = s ++ replicate (16 * blocks (length s) - length s) 0

-- 7.1, step 5: S, of the associated data a and the ciphertext c.
unfoldable pub hashed : ℕ → List ℕ → List ℕ → ℕ
hashed h a c = ghash h (pad a ++ pad c ++ be 8 (8 * length a) ++ be 8 (8 * length c))

-- 7.1, step 2, for an IV of 96 bits: the pre-counter block.
unfoldable pub j0 : List ℕ → List ℕ
j0 iv = iv ++ (0 ∷ 0 ∷ 0 ∷ 1 ∷ [])

-- The ciphertext and the tag of a sealed text.
abbrev pub ciphertext_of : List ℕ → List ℕ
ciphertext_of s = take (length s - 16) s

abbrev pub tag_of : List ℕ → List ℕ
tag_of s = drop (length s - 16) s

module _ (e : List ℕ → List ℕ) where
  -- 6.5, algorithm 3: GCTR, counter mode with inc32 (6.2).
  abbrev pub gctr : List ℕ → List ℕ → List ℕ
  gctr icb x = ctr inc32 e icb x

  -- 7.1, step 1: the hash subkey H, as a number.
  unfoldable pub subkey : ℕ
  subkey = int (e (replicate 16 0))

  -- 7.1, step 3, and 7.2, step 4: the text to and from its ciphertext.
  unfoldable pub crypt : List ℕ → List ℕ → List ℕ
  crypt iv x = gctr (inc32 (j0 iv)) x

  -- 7.1, step 6: the tag of the ciphertext c and the associated data a.
  unfoldable pub tag : List ℕ → List ℕ → List ℕ → List ℕ
  tag iv a c = gctr (j0 iv) (be 16 (hashed subkey a c))

  -- 7.1, algorithm 4: the ciphertext, and then the tag.
  unfoldable pub seal : List ℕ → List ℕ → List ℕ → List ℕ
  seal iv a p = crypt iv p ++ tag iv a (crypt iv p)

  -- 7.2, step 8: the tag of a sealed text is the right one. A text of fewer than 16 bytes is never good (step 1).
  unfoldable pub good : List ℕ → List ℕ → List ℕ → Bool
  good iv a s = same (tag iv a (ciphertext_of s)) (tag_of s)

  -- 7.2, step 4: the cleartext of a sealed text. Algorithm 5 gives it if `good` holds, and FAIL otherwise.
  unfoldable pub plain : List ℕ → List ℕ → List ℕ
  plain iv s = crypt iv (ciphertext_of s)
