-- A word rotated right by one, two and three bytes, as `rotate_right` does it.
-- Assumes nothing.
use Rattle.std.proofs.Common.{◌≡◌, ℕ, ◌+◌, ◌*◌, ◌/◌, ◌%◌, ◌^◌, ◌<◌, sym, ap₂, ◌∙◌, pow_pos, arith}
use Rattle.std.specs.Int.{rotate_right, w32}
use Rattle.std.specs.Int.Bits.{bit_or, or_zero_l, or_zero_r}
use Rattle.std.proofs.lemmas.Nat.{or_block}
use Rattle.octets.specs.Words.{HasBytes, b0, b1, b2, b3}
use Rattle.octets.proofs.Words.{bytes_of_word, parts, top}

-- Two numbers that share no digit.
joined : (h l k m : ℕ) → l < 2 ^ k → m ≡ h * 2 ^ k → bit_or l m ≡ h * 2 ^ k + l
joined h l k m i e =
    let p : bit_or (0 * 2 ^ k + l) (h * 2 ^ k + 0) ≡ bit_or 0 h * 2 ^ k + bit_or l 0 = or_block k 0 h l 0 i (pow_pos k) in
    let q : 0 * 2 ^ k + l ≡ l = omega arith in
    let r : h * 2 ^ k + 0 ≡ m = omega arith in
    sym (ap₂ bit_or q r) ∙ p ∙ ap₂ (λ (x y : ℕ). x * 2 ^ k + y) (or_zero_l h) (or_zero_r l)

-- Its two parts, changed over.
pub right_8 : {r : ℕ} (w : ℕ) → w < 2 ^ 32 → r ≡ rotate_right w32 w 8 → HasBytes r (b3 w) (b0 w) (b1 w) (b2 w)
right_8 w h e =
    let f : rotate_right w32 w 8 ≡ w % 2 ^ 8 * 2 ^ 24 + w / 2 ^ 8 = joined (w % 2 ^ 8) (w / 2 ^ 8) 24 _ (omega arith) (omega arith) in
    bytes_of_word (b3 w) (b0 w) (b1 w) (b2 w) (omega arith) (omega arith) (omega arith) (omega arith) (e ∙ f ∙ omega (arith, top w))

pub right_16 : {r : ℕ} (w : ℕ) → w < 2 ^ 32 → r ≡ rotate_right w32 w 16 → HasBytes r (b2 w) (b3 w) (b0 w) (b1 w)
right_16 w h e =
    let f : rotate_right w32 w 16 ≡ w % 2 ^ 16 * 2 ^ 16 + w / 2 ^ 16 = joined (w % 2 ^ 16) (w / 2 ^ 16) 16 _ (omega arith) (omega arith) in
    bytes_of_word (b2 w) (b3 w) (b0 w) (b1 w) (omega arith) (omega arith) (omega arith) (omega arith) (e ∙ f ∙ omega (arith, parts w))

pub right_24 : {r : ℕ} (w : ℕ) → w < 2 ^ 32 → r ≡ rotate_right w32 w 24 → HasBytes r (b1 w) (b2 w) (b3 w) (b0 w)
right_24 w h e =
    let f : rotate_right w32 w 24 ≡ w % 2 ^ 24 * 2 ^ 8 + w / 2 ^ 24 = joined (w % 2 ^ 24) (w / 2 ^ 24) 8 _ (omega arith) (omega arith) in
    bytes_of_word (b1 w) (b2 w) (b3 w) (b0 w) (omega arith) (omega arith) (omega arith) (omega arith) (e ∙ f ∙ omega (arith, parts w))
