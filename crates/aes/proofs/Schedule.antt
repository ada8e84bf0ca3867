-- The key expansion, word by word.
-- Assumes nothing.
use Prim.Native.Nat.{ℕ, zero, suc, ◌+◌, ◌-◌, ◌*◌, ◌/◌, ◌%◌, ◌<◌, ◌≤◌}
use mathlib.Core.Path.{◌≡◌, refl, ◌∙◌, ap, ap₂}
use mathlib.Core.List.{List, [], ◌∷◌, ◌++◌}
use native.Mathlib.Omega.{arith}
use native.Mathlib.Numerals.{add-one}
use lib.ListN.{length, drop, get_or, set, length-append, get_or-append}
use lib.Seq.{drop-cons, set_at, append_snoc}
use lib.Bits.{bit_xor}
use borrow.Author.Tests.{eq-eqb, ne_eqb}
use Rattle.octets.specs.Words.{word_at, words}
use Rattle.aes_spec.specs.KeyExpansion.{sub_word, rot_word, rcon, temp, expansion}

-- Lists that grow at their end stand at the front of a buffer; one store takes one element more.
pub store_next : (l d : List ℕ) (n v : ℕ) → length l ≡ n → n < length d → set (l ++ drop n d) n v ≡ (l ++ (v ∷ [])) ++ drop (n + 1) d
store_next l d n v e h = rw (drop-cons d n 0 h, set_at l (get_or d n 0) (drop (suc n) d) v n e, add-one, append_snoc)

-- ---- the words of the key

pub length-words : (n : ℕ) (s : List ℕ) → length (words n s) ≡ n
unfolding words
length-words zero s = refl
length-words (suc n) s = length-append (words n s) (word_at s (4 * n) ∷ []) ∙ omega (arith, length-words n s)

pub words_more : (key d : List ℕ) (n v : ℕ) → n < length d → v ≡ word_at key (4 * n) → set (words n key ++ drop n d) n v ≡ words (n + 1) key ++ drop (n + 1) d
unfolding words
words_more key d n v h e = store_next (words n key) d n v (length-words n key) h ∙ rw (add-one, e)

-- ---- the words after it

module _ (nk i t : ℕ) where
  pub temp-first : i % nk ≡ 0 → temp nk i t ≡ bit_xor (sub_word (rot_word t)) (rcon (i / nk))
  unfolding temp
  temp-first e = rw (eq-eqb (i % nk) 0 e)

pub temp_middle : (i t : ℕ) → i % 8 ≡ 4 → temp 8 i t ≡ sub_word t
unfolding temp
temp_middle i t e = rw e

pub temp-other : (i t : ℕ) → (i % 8 ≡ 0 → ⊥) → (i % 8 ≡ 4 → ⊥) → temp 8 i t ≡ t
unfolding temp
temp-other i t n m = rw (ne_eqb (i % 8) 0 n, ne_eqb (i % 8) 4 m)

pub length-expansion : (nk : ℕ) (key : List ℕ) (n : ℕ) → length (expansion nk key n) ≡ nk + n
unfolding expansion
length-expansion nk key zero = length-words nk key ∙ omega arith
length-expansion nk key (suc n) =
    let w = expansion nk key n in
    length-append w (bit_xor (get_or w n 0) (temp nk (nk + n) (get_or w (nk + n - 1) 0)) ∷ []) ∙ omega (arith, length-expansion nk key n)

-- The word i, where l has the words before it.
pub expansion_more : (nk : ℕ) (key d l : List ℕ) (i v : ℕ) → 0 < nk → nk ≤ i → i < length d → l ≡ expansion nk key (i - nk) ++ drop i d
    → v ≡ bit_xor (get_or l (i - nk) 0) (temp nk i (get_or l (i - 1) 0))
    → set l i v ≡ expansion nk key (i + 1 - nk) ++ drop (i + 1) d
unfolding expansion
expansion_more nk key d l i v z o h e f =
    let w = expansion nk key (i - nk) in
    let m : length w ≡ i = length-expansion nk key (i - nk) ∙ omega arith in
    let read : (j : ℕ) → j < i → get_or l j 0 ≡ get_or w j 0 =
    λ j k. ap (λ (x : List ℕ). get_or x j 0) e ∙ get_or-append w (drop i d) 0 j (omega arith) in
    let g : v ≡ bit_xor (get_or w (i - nk) 0) (temp nk i (get_or w (i - 1) 0)) =
    f ∙ ap₂ (λ (x y : ℕ). bit_xor x (temp nk i y)) (read (i - nk) (omega arith)) (read (i - 1) (omega arith)) in
    let a : i + 1 - nk ≡ suc (i - nk) = omega arith in
    let b : nk + (i - nk) ≡ i = omega arith in
    ap (λ (x : List ℕ). set x i v) e ∙ store_next w d i v m h ∙ rw (a, b, g)
