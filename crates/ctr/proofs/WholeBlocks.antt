-- A whole block with a block of the key stream added, word by word.
-- Assumes nothing.
use Rattle.std.proofs.Common.{◌≡◌, ℕ, ◌+◌, ◌≤◌, List, [], ◌∷◌, ◌++◌, length, get_or, take, drop, sym, ap, ◌∙◌, add-zero, arith, length-append, length-take-le, get_or-drop}
use lib.Bits.{bit_xor}
use Rattle.octets.specs.Bytes.{placed}
use Rattle.octets.specs.Words.{HasBytes, word_bytes}
use Rattle.octets.specs.Xors.{xors}
use Rattle.octets.proofs.Lists.{list_tab, drop_front, placed_all, placed-placed}
use Rattle.octets.proofs.Words.{self, renamed, xor_bytes, bytes_are}

-- Four words behind each other fill a block.
four_words : (a b c d : ℕ) (o p q r s : List ℕ) → length o ≡ 16
    → p ≡ placed (word_bytes (a ∷ [])) 0 o → q ≡ placed (word_bytes (b ∷ [])) 4 p → r ≡ placed (word_bytes (c ∷ [])) 8 q → s ≡ placed (word_bytes (d ∷ [])) 12 r
    → s ≡ word_bytes (a ∷ b ∷ c ∷ d ∷ [])
unfolding word_bytes
four_words a b c d o p q r s l e f g h =
    let w : ℕ → List ℕ = λ x. word_bytes (x ∷ []) in
    let two : q ≡ placed (w a ++ w b) 0 o = f ∙ ap (placed (w b) 4) e ∙ placed-placed (w a) (w b) o 0 (omega arith) in
    let three : r ≡ placed ((w a ++ w b) ++ w c) 0 o = g ∙ ap (placed (w c) 8) two ∙ placed-placed (w a ++ w b) (w c) o 0 (omega arith) in
    h ∙ ap (placed (w d) 12) three ∙ placed-placed ((w a ++ w b) ++ w c) (w d) o 0 (omega arith) ∙ placed_all (word_bytes (a ∷ b ∷ c ∷ d ∷ [])) o l

-- The word w has the four bytes of s from the place `at` on.
abbrev pub HasWord : ℕ → List ℕ → ℕ → Type 0
HasWord w s at = HasBytes w (get_or s at 0) (get_or s (at + 1) 0) (get_or s (at + 2) 0) (get_or s (at + 3) 0)

-- The words of s, each with a word of the key stream added, in the places of a block o.
module _ (s o : List ℕ) (l : length s ≡ 16) (m : length o ≡ 16) (a b c d : ℕ) where
  pub xor_block : {x y z v : ℕ} (p q r t : List ℕ) → HasWord x s 0 → HasWord y s 4 → HasWord z s 8 → HasWord v s 12
      → p ≡ placed (word_bytes (bit_xor x a ∷ [])) 0 o → q ≡ placed (word_bytes (bit_xor y b ∷ [])) 4 p
      → r ≡ placed (word_bytes (bit_xor z c ∷ [])) 8 q → t ≡ placed (word_bytes (bit_xor v d ∷ [])) 12 r
      → t ≡ xors s (word_bytes (a ∷ b ∷ c ∷ d ∷ []))
  unfolding word_bytes xors
  xor_block p q r t e f g h i j k n =
      four_words _ _ _ _ o p q r t m i j k n
      ∙ bytes_are (xor_bytes e (self a)) (xor_bytes f (self b)) (xor_bytes g (self c)) (xor_bytes h (self d))
      ∙ ap (λ (u : List ℕ). xors u (word_bytes (a ∷ b ∷ c ∷ d ∷ []))) (sym (list_tab 16 s l))

-- A word behind another that is written stays.
word_kept : {w : ℕ} (x : ℕ) (d p : List ℕ) (at j : ℕ) → at ≤ length d → at + 4 ≤ j → p ≡ placed (word_bytes (x ∷ [])) at d → HasWord w p j → HasWord w d j
unfolding word_bytes
word_kept x d p at j h k e f = renamed f (kept j k) (kept (j + 1) (omega arith)) (kept (j + 2) (omega arith)) (kept (j + 3) (omega arith))
  where
    kept : (i : ℕ) → at + 4 ≤ i → get_or p i 0 ≡ get_or d i 0
    kept i g =
        let y = word_bytes (x ∷ []) in
        let n : length (take at d ++ y) ≡ at + 4 = length-append (take at d) y ∙ ap (λ (m : ℕ). m + 4) (length-take-le at d h) in
        let same : drop i p ≡ drop i d = ap (drop i) e ∙ drop_front (take at d ++ y) d (at + 4) i n g in
        let first : (z : List ℕ) → get_or (drop i z) 0 0 ≡ get_or z i 0 = λ z. get_or-drop i z 0 0 ∙ ap (λ (m : ℕ). get_or z m 0) (add-zero i) in
        sym (first p) ∙ ap (λ (z : List ℕ). get_or z 0 0) same ∙ first d

-- The same in place: each word is read from the block with the words before it written.
module _ (s : List ℕ) (l : length s ≡ 16) (a b c d : ℕ) where
  pub xor_block_in_place : {x y z v : ℕ} (p q r t : List ℕ) → length p ≡ length s → length q ≡ length p
      → HasWord x s 0 → HasWord y p 4 → HasWord z q 8 → HasWord v r 12
      → p ≡ placed (word_bytes (bit_xor x a ∷ [])) 0 s → q ≡ placed (word_bytes (bit_xor y b ∷ [])) 4 p
      → r ≡ placed (word_bytes (bit_xor z c ∷ [])) 8 q → t ≡ placed (word_bytes (bit_xor v d ∷ [])) 12 r
      → t ≡ xors s (word_bytes (a ∷ b ∷ c ∷ d ∷ []))
  xor_block_in_place {x} {y} {z} {v} p q r t lp lq e f g h i j k n =
      let first : (w m : ℕ) → 4 ≤ m → HasWord w p m → HasWord w s m = λ w m o. word_kept (bit_xor x a) s p 0 m (omega arith) (omega arith) i in
      let second : (w m : ℕ) → 8 ≤ m → HasWord w q m → HasWord w p m = λ w m o. word_kept (bit_xor y b) p q 4 m (omega arith) (omega arith) j in
      let third : HasWord v q 12 = word_kept (bit_xor z c) q r 8 12 (omega arith) (omega arith) k h in
      xor_block s s l l a b c d p q r t e (first y 4 (omega arith) f) (first z 8 (omega arith) (second z 8 (omega arith) g))
      (first v 12 (omega arith) (second v 12 (omega arith) third)) i j k n
