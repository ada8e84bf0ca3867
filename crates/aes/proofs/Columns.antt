-- A column of a round is the sum of four words of the table, rotated, and of the key's word.
-- Assumes nothing.
use Prim.Native.Nat.{ℕ}
use mathlib.Core.Path.{◌≡◌}
use lib.Bits.{bit_xor}
use Rattle.aes_spec.specs.Field.{mul}
use Rattle.aes_spec.specs.SBox.{sbox}
use Rattle.octets.specs.Words.{b0, b1, b2, b3, HasBytes}
use Rattle.aes_spec.specs.Cipher.{xor4}
use Rattle.octets.proofs.Words.{xor_bytes, self, renamed}

-- r is the sum of four words, each rotated to its row.
abbrev pub RotatedSum : (r p q s t : ℕ) → Type 0
RotatedSum r p q s t = HasBytes r
    (xor4 (b0 p) (b3 q) (b2 s) (b1 t))
    (xor4 (b1 p) (b0 q) (b3 s) (b2 t))
    (xor4 (b2 p) (b1 q) (b0 s) (b3 t))
    (xor4 (b3 p) (b2 q) (b1 s) (b0 t))

pub xor4_of : {a b c d a' b' c' d' : ℕ} → a ≡ a' → b ≡ b' → c ≡ c' → d ≡ d' → xor4 a b c d ≡ xor4 a' b' c' d'
xor4_of p q r s = cc

-- t is the table's word at x.
abbrev pub Entry : ℕ → ℕ → Type 0
Entry t x = HasBytes t (mul 2 (sbox x)) (sbox x) (sbox x) (mul 3 (sbox x))

-- r is what a round makes of four bytes and the key's word.
abbrev pub Column : (r p q s t k : ℕ) → Type 0
Column r p q s t k = HasBytes r
    (bit_xor (xor4 (mul 2 (sbox p)) (mul 3 (sbox q)) (sbox s) (sbox t)) (b0 k))
    (bit_xor (xor4 (sbox p) (mul 2 (sbox q)) (mul 3 (sbox s)) (sbox t)) (b1 k))
    (bit_xor (xor4 (sbox p) (sbox q) (mul 2 (sbox s)) (mul 3 (sbox t))) (b2 k))
    (bit_xor (xor4 (mul 3 (sbox p)) (sbox q) (sbox s) (mul 2 (sbox t))) (b3 k))

pub column : {t0 t1 t2 t3 r : ℕ} (p q s t k : ℕ) → Entry t0 p → Entry t1 q → Entry t2 s → Entry t3 t → RotatedSum r t0 t1 t2 t3 → Column (bit_xor r k) p q s t k
column p q s t k e0 e1 e2 e3 h =
    xor_bytes
    (renamed h
    (xor4_of e0.at0 e1.at3 e2.at2 e3.at1)
    (xor4_of e0.at1 e1.at0 e2.at3 e3.at2)
    (xor4_of e0.at2 e1.at1 e2.at0 e3.at3)
    (xor4_of e0.at3 e1.at2 e2.at1 e3.at0))
    (self k)

pub last_column : {v : ℕ} (p q s t k : ℕ) → HasBytes v (sbox p) (sbox q) (sbox s) (sbox t)
    → HasBytes (bit_xor v k) (bit_xor (sbox p) (b0 k)) (bit_xor (sbox q) (b1 k)) (bit_xor (sbox s) (b2 k)) (bit_xor (sbox t) (b3 k))
last_column p q s t k h = xor_bytes h (self k)
