-- The bytes of words, written one word after the other.
-- Assumes nothing.
use Rattle.std.proofs.Common.{◌≡◌, ℕ, ◌+◌, ◌*◌, ◌<◌, ◌≤◌, List, [], ◌∷◌, ◌++◌, length, get_or, take, drop, sym, ap, ◌∙◌, arith}
use Rattle.std.proofs.Math.Seq.{paste, take-length}
use Rattle.octets.specs.Bytes.{placed}
use Rattle.octets.specs.Words.{word_bytes}
use Rattle.octets.proofs.Lists.{placed-next}
use Rattle.octets.proofs.Words.{length-word_bytes, word_bytes-at}

-- One word more.
pub written_more : (w d l r : List ℕ) (at i : ℕ) → i < length w → at ≤ length d → l ≡ paste d at (word_bytes w) (4 * i)
    → r ≡ placed (word_bytes (get_or w i 0 ∷ [])) (at + 4 * i) l → r ≡ paste d at (word_bytes w) (4 * (i + 1))
written_more w d l r at i h k e g =
    let p = word_bytes (get_or w i 0 ∷ []) in
    let n : length p ≡ 4 = length-word_bytes (get_or w i 0 ∷ []) in
    let q : p ≡ take (length p) (drop (4 * i) (word_bytes w)) = sym (word_bytes-at w i h) ∙ ap (λ (j : ℕ). take j (drop (4 * i) (word_bytes w))) (sym n) in
    let j : 4 * i + length p ≡ 4 * (i + 1) = omega arith in
    g ∙ ap (placed p (at + 4 * i)) e ∙ placed-next (word_bytes w) d p at (4 * i) k (omega (arith, length-word_bytes w)) q ∙ ap (paste d at (word_bytes w)) j

-- All words.
pub written_all : (w d : List ℕ) (at i : ℕ) → i ≡ length w → paste d at (word_bytes w) (4 * i) ≡ placed (word_bytes w) at d
written_all w d at i h =
    let e : 4 * i ≡ length (word_bytes w) = omega (arith, length-word_bytes w) in
    ap (paste d at (word_bytes w)) e ∙ ap (λ (s : List ℕ). take at d ++ s ++ drop (at + length (word_bytes w)) d) (take-length (word_bytes w))
