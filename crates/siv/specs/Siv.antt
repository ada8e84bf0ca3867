-- RFC 5297: SIV. mac is the block cipher under K1, the first half of the RFC's key, and enc under K2, the second half (2.6); both
-- are on 16 bytes. To add is exclusive or. The RFC allows at most 126 strings of associated data (2.6): beyond that nothing
-- here is the standard's.
-- Assumes nothing.
use Rattle.std.specs.Prelude.{ℕ, ◌-◌, ◌%◌, List, [], ◌∷◌, ◌++◌, Bool, cond, take, drop, get_or, length, leb}
use Rattle.octets.specs.Bytes.{same}
use Rattle.octets.specs.Xors.{xors}
use Rattle.octets.specs.BigEndian.{be}
use Rattle.ctr.specs.Ctr.{inc128, ctr}
use Rattle.siv.specs.Cmac.{dbl, pad, cmac}

-- 2.1: b, which is no longer than a, is added to the end of a.
unfoldable pub xorend : List ℕ → List ℕ → List ℕ
xorend a b = take (length a - length b) a ++ xors (drop (length a - length b) a) b

module _ (mac : List ℕ → List ℕ) where
  -- 2.4: the end of S2V, of D = d and the last string s: T, and its CMAC.
  unfoldable pub s2v_last : List ℕ → List ℕ → List ℕ
  s2v_last d s = cmac mac (cond (leb 16 (length s)) (xorend s d) (xors (dbl d) (pad s)))

  -- 2.4: S2V from D = d on, over the string s and then those of r.
  unfoldable pub s2v_from : List ℕ → List ℕ → List (List ℕ) → List ℕ
  s2v_from d s [] = s2v_last d s
  s2v_from d s (t ∷ r) = s2v_from (xors (dbl d) (cmac mac s)) t r

  -- 2.4: S2V of a list of strings. The blocks <zero> and <one> of 2.1 are the numbers 0 and 1.
  unfoldable pub s2v : List (List ℕ) → List ℕ
  s2v [] = cmac mac (be 16 1)
  s2v (s ∷ r) = s2v_from (cmac mac (be 16 0)) s r

-- 2.6 and 2.7: the first counter block Q, the synthetic IV with the top bits of its bytes 8 and 12, counted from 0, cleared.
unfoldable pub counter_of : List ℕ → List ℕ
counter_of v = take 8 v ++ (get_or v 8 0 % 128 ∷ []) ++ take 3 (drop 9 v) ++ (get_or v 12 0 % 128 ∷ []) ++ drop 13 v

module _ (enc : List ℕ → List ℕ) where
  -- 2.5 to 2.7: the text to and from its ciphertext, under the synthetic IV v.
  unfoldable pub crypt : List ℕ → List ℕ → List ℕ
  crypt v x = ctr inc128 enc (counter_of v) x

  -- 2.7: a sealed text is the synthetic IV and then the ciphertext; this is its cleartext, which the RFC gives only if `good` holds.
  unfoldable pub plain : List ℕ → List ℕ
  plain z = crypt (take 16 z) (drop 16 z)

module _ (mac enc : List ℕ → List ℕ) where
  -- 2.6: the cleartext p sealed, with the strings of associated data.
  unfoldable pub seal : List (List ℕ) → List ℕ → List ℕ
  seal ads p = let v = s2v mac (ads ++ (p ∷ [])) in v ++ crypt enc v p

  -- 2.7: the first 16 bytes of a sealed text are the synthetic IV of its associated data and its cleartext. A text of fewer than 16
  -- bytes is never good.
  unfoldable pub good : List (List ℕ) → List ℕ → Bool
  good ads z = same (s2v mac (ads ++ (plain enc z ∷ []))) (take 16 z)
