-- Each step of the cipher keeps blocks, and the step of the inverse cipher undoes it.
-- Assumes nothing.
use Prim.Native.Nat.{ℕ, zero, suc, ◌+◌, ◌-◌, ◌*◌, ◌/◌, ◌%◌, ◌<◌}
use mathlib.Core.Path.{◌≡◌, refl, sym, ap, ap₂, ◌∙◌}
use mathlib.Core.List.{List, [], ◌∷◌, map}
use native.Mathlib.Nat.{mod-lt}
use native.Mathlib.Omega.{arith}
use lib.Dec.{lit<}
use lib.ListN.{length, get_or, length-map}
use lib.Bits.{bit_xor, xor_lt}
use Rattle.octets.specs.Bytes.{Bytes}
use Rattle.octets.specs.Words.{word_bytes}
use Rattle.octets.proofs.Bytes.{below_nil, below_cons, below_drop}
use Rattle.octets.proofs.Lists.{tab, list_tab}
use Rattle.octets.proofs.Words.{length-word_bytes}
use Rattle.octets.proofs.Xors.{length-xors, xors_twice}
use Rattle.aes_spec.specs.Field.{xtimes, mul_bits, mul}
use Rattle.aes_spec.specs.SBox.{sbox}
use Rattle.aes_spec.specs.Cipher.{xor4, sub_bytes, shift_rows, mix_columns, add_round_key}
use Rattle.aes_spec.proofs.ByteStrings.{Words, sbox-byte, key-added}
use Rattle.aes_inverse.specs.InverseSBox.{inverse_sbox}
use Rattle.aes_inverse.specs.InverseCipher.{inv_shift_rows, inv_sub_bytes, inv_mix_columns}
use Rattle.aes_inverse.specs.Statements.{Block, Inverses}
use Rattle.aes_inverse.proofs.InverseSBoxRule.{sbox-undone, inverse-byte}
use Rattle.aes_inverse.proofs.Columns.{columns_undone, columns_redone}

-- ---- SUBBYTES, and any other map by a table of bytes

module _ (f : ℕ → ℕ) where
  map-bytes : ((x : ℕ) → f x < 256) → (s : List ℕ) → Bytes (map f s)
  map-bytes h [] = below_nil (lit< tt)
  map-bytes h (a ∷ s) = below_cons (h a) (map-bytes h s)

  map-block : ((x : ℕ) → f x < 256) → {s : List ℕ} → Block s → Block (map f s)
  map-block h {s} b = record { size = length-map s f ∙ b.size; bytes = map-bytes h s }

map-undone : (f g : ℕ → ℕ) → ((x : ℕ) → x < 256 → f (g x) ≡ x) → (s : List ℕ) → Bytes s → map f (map g s) ≡ s
map-undone f g e [] h = refl
map-undone f g e (a ∷ s) h = ap₂ (λ (x : ℕ) (l : List ℕ). x ∷ l) (e a (h.at 0)) (map-undone f g e s (below_drop 1 h))

pub sub_bytes_inverses : Inverses sub_bytes inv_sub_bytes
unfolding sub_bytes inv_sub_bytes
sub_bytes_inverses = record {
  forward = map-block sbox sbox-byte;
  backward = map-block inverse_sbox inverse-byte;
  undone = λ {s} b. map-undone inverse_sbox sbox (λ x h. (sbox-undone x h).0) s b.bytes;
  redone = λ {s} b. map-undone sbox inverse_sbox (λ x h. (sbox-undone x h).1) s b.bytes;
}

-- ---- SHIFTROWS

-- The bytes of s at sixteen places.
picked : (s : List ℕ) → Bytes s → (f : ℕ → ℕ) (n : ℕ) → Bytes (tab n (λ k. get_or s (f k) 0))
picked s h f zero = below_nil (lit< tt)
picked s h f (suc n) = below_cons (h.at (f 0)) (picked s h (λ k. f (suc k)) n)

shifted-block : {s : List ℕ} → Block s → Block (shift_rows s)
unfolding shift_rows
shifted-block {s} b = record { size = refl; bytes = picked s b.bytes (λ k. k % 4 + 4 * ((k / 4 + k % 4) % 4)) 16 }

shifted_back-block : {s : List ℕ} → Block s → Block (inv_shift_rows s)
unfolding inv_shift_rows
shifted_back-block {s} b = record { size = refl; bytes = picked s b.bytes (λ k. k % 4 + 4 * ((k / 4 + 4 - k % 4) % 4)) 16 }

pub shift_rows_inverses : Inverses shift_rows inv_shift_rows
unfolding shift_rows inv_shift_rows
shift_rows_inverses = record {
  forward = shifted-block;
  backward = shifted_back-block;
  undone = λ {s} b. sym (list_tab 16 s b.size);
  redone = λ {s} b. sym (list_tab 16 s b.size);
}

-- ---- MIXCOLUMNS

mul_bits-byte : (k a b : ℕ) → a < 256 → mul_bits k a b < 256
unfolding mul_bits xtimes
mul_bits-byte zero a b h = lit< tt
mul_bits-byte (suc k) a b h =
    xor_lt 8 (b % 2 * a) (mul_bits k (xtimes a) (b / 2)) (low (b % 2) (mod-lt b (lit< tt)))
    (mul_bits-byte k (xtimes a) (b / 2) (xor_lt 8 (a * 2 % 256) (a / 128 * 0x1b) (omega arith) (omega arith)))
  where
    low : (x : ℕ) → x < 2 → x * a < 256
    low zero p = omega arith
    low (suc zero) p = omega arith
    low (suc (suc x)) p = absurd (omega arith)

mul-byte : {a : ℕ} (b : ℕ) → a < 256 → mul a b < 256
unfolding mul
mul-byte {a} b h = mul_bits-byte 8 a b h

sum_byte : (a b c d : ℕ) → a < 256 → b < 256 → c < 256 → d < 256 → xor4 a b c d < 256
sum_byte a b c d p q r s = xor_lt 8 (bit_xor (bit_xor a b) c) d (xor_lt 8 (bit_xor a b) c (xor_lt 8 a b p q) r) s

mixed_block : {s : List ℕ} → Block s → Block (mix_columns s)
unfolding mix_columns
mixed_block {s} b = record { size = long 4 s b.size ∙ b.size; bytes = bytes s b.bytes }
  where
    long : (n : ℕ) (s : List ℕ) → length s ≡ 4 * n → length (mix_columns s) ≡ length s
    long n [] l = refl
    long n (a ∷ []) l = absurd (omega arith)
    long n (a ∷ b ∷ []) l = absurd (omega arith)
    long n (a ∷ b ∷ c ∷ []) l = absurd (omega arith)
    long zero (a ∷ b ∷ c ∷ d ∷ s) l = absurd (omega arith)
    long (suc n) (a ∷ b ∷ c ∷ d ∷ s) l = ap (λ (k : ℕ). suc (suc (suc (suc k)))) (long n s (omega arith))

    bytes : (s : List ℕ) → Bytes s → Bytes (mix_columns s)
    bytes [] h = h
    bytes (a ∷ []) h = below_nil (lit< tt)
    bytes (a ∷ b ∷ []) h = below_nil (lit< tt)
    bytes (a ∷ b ∷ c ∷ []) h = below_nil (lit< tt)
    bytes (a ∷ b ∷ c ∷ d ∷ s) h =
        below_cons (sum_byte (mul 2 a) (mul 3 b) c d (mul-byte a (lit< tt)) (mul-byte b (lit< tt)) (h.at 2) (h.at 3))
        (below_cons (sum_byte a (mul 2 b) (mul 3 c) d (h.at 0) (mul-byte b (lit< tt)) (mul-byte c (lit< tt)) (h.at 3))
        (below_cons (sum_byte a b (mul 2 c) (mul 3 d) (h.at 0) (h.at 1) (mul-byte c (lit< tt)) (mul-byte d (lit< tt)))
        (below_cons (sum_byte (mul 3 a) b c (mul 2 d) (mul-byte a (lit< tt)) (h.at 1) (h.at 2) (mul-byte d (lit< tt))) (bytes s (below_drop 4 h)))))

unmixed_block : {s : List ℕ} → Block s → Block (inv_mix_columns s)
unfolding inv_mix_columns
unmixed_block {s} b = record { size = long 4 s b.size ∙ b.size; bytes = bytes s }
  where
    long : (n : ℕ) (s : List ℕ) → length s ≡ 4 * n → length (inv_mix_columns s) ≡ length s
    long n [] l = refl
    long n (a ∷ []) l = absurd (omega arith)
    long n (a ∷ b ∷ []) l = absurd (omega arith)
    long n (a ∷ b ∷ c ∷ []) l = absurd (omega arith)
    long zero (a ∷ b ∷ c ∷ d ∷ s) l = absurd (omega arith)
    long (suc n) (a ∷ b ∷ c ∷ d ∷ s) l = ap (λ (k : ℕ). suc (suc (suc (suc k)))) (long n s (omega arith))

    row : (j k l m a b c d : ℕ) → j < 256 → k < 256 → l < 256 → m < 256 → xor4 (mul j a) (mul k b) (mul l c) (mul m d) < 256
    row j k l m a b c d p q r s = sum_byte (mul j a) (mul k b) (mul l c) (mul m d) (mul-byte a p) (mul-byte b q) (mul-byte c r) (mul-byte d s)

    bytes : (s : List ℕ) → Bytes (inv_mix_columns s)
    bytes [] = below_nil (lit< tt)
    bytes (a ∷ []) = below_nil (lit< tt)
    bytes (a ∷ b ∷ []) = below_nil (lit< tt)
    bytes (a ∷ b ∷ c ∷ []) = below_nil (lit< tt)
    bytes (a ∷ b ∷ c ∷ d ∷ s) =
        below_cons (row 0x0e 0x0b 0x0d 0x09 a b c d (lit< tt) (lit< tt) (lit< tt) (lit< tt))
        (below_cons (row 0x09 0x0e 0x0b 0x0d a b c d (lit< tt) (lit< tt) (lit< tt) (lit< tt))
        (below_cons (row 0x0d 0x09 0x0e 0x0b a b c d (lit< tt) (lit< tt) (lit< tt) (lit< tt))
        (below_cons (row 0x0b 0x0d 0x09 0x0e a b c d (lit< tt) (lit< tt) (lit< tt) (lit< tt)) (bytes s))))

pub mix_columns_inverses : Inverses mix_columns inv_mix_columns
mix_columns_inverses = record {
  forward = mixed_block;
  backward = unmixed_block;
  undone = λ {s} b. columns_undone 4 s b.size b.bytes;
  redone = λ {s} b. columns_redone 4 s b.size b.bytes;
}

-- ---- ADDROUNDKEY, its own inverse

module _ {w : List ℕ} (h : Words w) (r : ℕ) where
  keyed_block : {s : List ℕ} → Block s → Block (add_round_key w r s)
  unfolding add_round_key
  keyed_block {s} b =
      let ws = get_or w (4 * r) 0 ∷ get_or w (4 * r + 1) 0 ∷ get_or w (4 * r + 2) 0 ∷ get_or w (4 * r + 3) 0 ∷ [] in
      let l : length (word_bytes ws) ≡ 16 = length-word_bytes ws in
      let z = b.size in
      record {
        size = length-xors s (word_bytes ws) (omega arith) ∙ b.size;
        bytes = key-added r h b.bytes;
      }

  keyed_twice : {s : List ℕ} → Block s → add_round_key w r (add_round_key w r s) ≡ s
  unfolding add_round_key
  keyed_twice {s} b =
      let ws = get_or w (4 * r) 0 ∷ get_or w (4 * r + 1) 0 ∷ get_or w (4 * r + 2) 0 ∷ get_or w (4 * r + 3) 0 ∷ [] in
      let l : length (word_bytes ws) ≡ 16 = length-word_bytes ws in
      let z = b.size in
      xors_twice s (word_bytes ws) (omega arith)

  pub add_round_key_inverses : Inverses (add_round_key w r) (add_round_key w r)
  add_round_key_inverses = record { forward = keyed_block; backward = keyed_block; undone = keyed_twice; redone = keyed_twice }
