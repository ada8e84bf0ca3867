-- AES under a key that is a byte string gives byte strings.
-- Assumes nothing.
use Prim.Native.Nat.{ℕ, zero, suc, ◌+◌, ◌-◌, ◌*◌, ◌/◌, ◌%◌, ◌^◌, ◌≤◌, ◌<◌}
use mathlib.Core.Bool.{Bool, true, false, ◌&&◌, cond}
use mathlib.Core.List.{List, [], ◌∷◌, ◌++◌}
use mathlib.Core.Logic.{⊎_elim}
use native.Mathlib.Omega.{arith}
use lib.Dec.{eqb, ltb, ltb→lt, lit<}
use lib.ListN.{get_or, get_or-eq_default}
use lib.Bits.{xor_lt}
use Rattle.octets.specs.Bytes.{Below, Bytes}
use Rattle.octets.specs.Words.{b0, b1, b2, b3, words}
use Rattle.octets.proofs.Bytes.{below_nil, below_cons, below_append, bytes-xors, bytes-word_bytes}
use Rattle.octets.proofs.Lists.{le_or_lt}
use Rattle.octets.proofs.Tables.{all_at}
use Rattle.aes_spec.specs.Field.{xtimes}
use Rattle.aes_spec.specs.SBox.{sbox_table, sbox}
use Rattle.aes_spec.specs.KeyExpansion.{sub_word, rot_word, power_of_x, rcon, temp, expansion, key_expansion}
use Rattle.aes_spec.specs.Cipher.{sub_bytes, shift_rows, add_round_key, cipher, aes}

-- ---- the S-box

abbrev small : ℕ → Bool
small x = ltb (get_or sbox_table x 0) 256

pub sbox-byte : (x : ℕ) → sbox x < 256
unfolding sbox
sbox-byte x =
    ⊎_elim (λ (h : 256 ≤ x). rw (get_or-eq_default sbox_table 0 {n = x} h) (lit< tt))
    (λ (h : x < 256). ltb→lt (get_or sbox_table x 0) 256 (all_at small 256 tt x h))
    (le_or_lt 256 x)

-- ---- the key expansion

abbrev pub Words : List ℕ → Type 0
Words l = Below (2 ^ 32) l

power_byte : (i : ℕ) → power_of_x i < 256
unfolding power_of_x xtimes
power_byte zero = lit< tt
power_byte (suc i) =
    let h = power_byte i in
    xor_lt 8 (power_of_x i * 2 % 256) (power_of_x i / 128 * 0x1b) (omega arith) (omega arith)

sub_word_lem : (w : ℕ) → sub_word w < 2 ^ 32
unfolding sub_word
sub_word_lem w = omega (arith, sbox-byte (b0 w), sbox-byte (b1 w), sbox-byte (b2 w), sbox-byte (b3 w))

rcon-word : (j : ℕ) → rcon j < 2 ^ 32
unfolding rcon
rcon-word j = omega (arith, power_byte (j - 1))

either : (b : Bool) {x y m : ℕ} → x < m → y < m → cond b x y < m
either true h k = h
either false h k = k

temp_word : (nk i t : ℕ) → t < 2 ^ 32 → temp nk i t < 2 ^ 32
unfolding temp
temp_word nk i t h =
    either (eqb (i % nk) 0) (xor_lt 32 (sub_word (rot_word t)) (rcon (i / nk)) (sub_word_lem (rot_word t)) (rcon-word (i / nk)))
    (either (ltb 6 nk && eqb (i % nk) 4) (sub_word_lem t) h)

snoc : {w : List ℕ} {x : ℕ} → Words w → x < 2 ^ 32 → Words (w ++ (x ∷ []))
snoc h k = below_append h (below_cons k (below_nil (lit< tt)))

words_small : (n : ℕ) {s : List ℕ} → Bytes s → Words (words n s)
unfolding words
words_small zero h = below_nil (lit< tt)
words_small (suc n) h = snoc (words_small n h) (omega (arith, h.at (4 * n), h.at (4 * n + 1), h.at (4 * n + 2), h.at (4 * n + 3)))

pub expansion-words : (nk : ℕ) {key : List ℕ} → Bytes key → (n : ℕ) → Words (expansion nk key n)
unfolding expansion
expansion-words nk h zero = words_small nk h
expansion-words nk {key} h (suc n) =
    let w = expansion-words nk h n in
    snoc w (xor_lt 32 (get_or (expansion nk key n) n 0) (temp nk (nk + n) (get_or (expansion nk key n) (nk + n - 1) 0)) (w.at n) (temp_word nk (nk + n) (get_or (expansion nk key n) (nk + n - 1) 0) (w.at (nk + n - 1))))

-- ---- the cipher

subbed : (s : List ℕ) → Bytes (sub_bytes s)
unfolding sub_bytes
subbed [] = below_nil (lit< tt)
subbed (x ∷ s) = below_cons (sbox-byte x) (subbed s)

shifted-bytes : {s : List ℕ} → Bytes s → Bytes (shift_rows s)
unfolding shift_rows
shifted-bytes h =
    below_cons (h.at 0) (below_cons (h.at 5) (below_cons (h.at 10) (below_cons (h.at 15)
    (below_cons (h.at 4) (below_cons (h.at 9) (below_cons (h.at 14) (below_cons (h.at 3)
    (below_cons (h.at 8) (below_cons (h.at 13) (below_cons (h.at 2) (below_cons (h.at 7)
    (below_cons (h.at 12) (below_cons (h.at 1) (below_cons (h.at 6) (below_cons (h.at 11) (below_nil (lit< tt)))))))))))))))))

pub key-added : {w s : List ℕ} (r : ℕ) → Words w → Bytes s → Bytes (add_round_key w r s)
unfolding add_round_key
key-added r h k =
    bytes-xors k (bytes-word_bytes (below_cons (h.at (4 * r)) (below_cons (h.at (4 * r + 1)) (below_cons (h.at (4 * r + 2)) (below_cons (h.at (4 * r + 3)) (below_nil (lit< tt)))))))

pub aes-bytes : (nk : ℕ) {key : List ℕ} → Bytes key → (s : List ℕ) → Bytes (aes nk key s)
unfolding key_expansion cipher aes
aes-bytes nk h s = key-added (nk + 6) (expansion-words nk h _) (shifted-bytes (subbed _))
