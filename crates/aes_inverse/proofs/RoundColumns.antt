-- A round of the inverse cipher with InvMixColumns before AddRoundKey: the round key went through it too.
-- Assumes nothing.
use Prim.Native.Nat.{ℕ}
use mathlib.Core.Path.{◌≡◌, sym, ap, ◌∙◌}
use lib.Bits.{bit_xor}
use Rattle.octets.specs.Words.{HasBytes, b0, b1, b2, b3}
use Rattle.octets.proofs.Words.{xor_bytes, self, renamed}
use Rattle.aes_spec.specs.Field.{mul}
use Rattle.aes_spec.specs.Cipher.{xor4}
use Rattle.aes_inverse.specs.RoundKeys.{UnmixedBytes, Unmixed}
use Rattle.aes_inverse.proofs.Columns.{pair, four, mul_sum}

-- r is the column of a, b, c and d under InvMixColumns, and the word k added.
abbrev pub Keyed : (r a b c d k : ℕ) → Type 0
Keyed r a b c d k = HasBytes r
    (bit_xor (xor4 (mul 0x0e a) (mul 0x0b b) (mul 0x0d c) (mul 0x09 d)) (b0 k))
    (bit_xor (xor4 (mul 0x09 a) (mul 0x0e b) (mul 0x0b c) (mul 0x0d d)) (b1 k))
    (bit_xor (xor4 (mul 0x0d a) (mul 0x09 b) (mul 0x0e c) (mul 0x0b d)) (b2 k))
    (bit_xor (xor4 (mul 0x0b a) (mul 0x0d b) (mul 0x09 c) (mul 0x0e d)) (b3 k))

pub keyed : {r : ℕ} (a b c d k : ℕ) → UnmixedBytes r a b c d → Keyed (bit_xor r k) a b c d k
keyed a b c d k h = xor_bytes h (self k)

-- InvMixColumns is additive.
additive : (p q s t a b c d e f g h : ℕ)
    → bit_xor (xor4 (mul p a) (mul q b) (mul s c) (mul t d)) (xor4 (mul p e) (mul q f) (mul s g) (mul t h))
    ≡ xor4 (mul p (bit_xor a e)) (mul q (bit_xor b f)) (mul s (bit_xor c g)) (mul t (bit_xor d h))
additive p q s t a b c d e f g h =
    pair (mul p a) (mul q b) (mul s c) (mul t d) (mul p e) (mul q f) (mul s g) (mul t h)
    ∙ four (sym (mul_sum p a e)) (sym (mul_sum q b f)) (sym (mul_sum s c g)) (sym (mul_sum t d h))

-- So the key's word w, unmixed in k, may be added first.
pub keyed_first : {r k : ℕ} (a b c d w : ℕ) → Keyed r a b c d k → Unmixed k w → UnmixedBytes r (bit_xor a (b0 w)) (bit_xor b (b1 w)) (bit_xor c (b2 w)) (bit_xor d (b3 w))
keyed_first a b c d w h u = renamed h (row 0x0e 0x0b 0x0d 0x09 u.at0) (row 0x09 0x0e 0x0b 0x0d u.at1) (row 0x0d 0x09 0x0e 0x0b u.at2) (row 0x0b 0x0d 0x09 0x0e u.at3)
  where
    row : (p q s t : ℕ) {y : ℕ} → y ≡ xor4 (mul p (b0 w)) (mul q (b1 w)) (mul s (b2 w)) (mul t (b3 w))
        → bit_xor (xor4 (mul p a) (mul q b) (mul s c) (mul t d)) y ≡ xor4 (mul p (bit_xor a (b0 w))) (mul q (bit_xor b (b1 w))) (mul s (bit_xor c (b2 w))) (mul t (bit_xor d (b3 w)))
    row p q s t e = ap (bit_xor (xor4 (mul p a) (mul q b) (mul s c) (mul t d))) e ∙ additive p q s t a b c d (b0 w) (b1 w) (b2 w) (b3 w)
