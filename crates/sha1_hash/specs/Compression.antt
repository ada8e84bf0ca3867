-- SHA-1 of one block: the functions and the constants of the 80 steps (FIPS 180-4, 4.1.1 and 4.2.1), and 6.1.2, items 1 to 4.
-- A block is a list of 64 bytes, and a hash value a list of five words.
-- Assumes nothing.
use Rattle.std.specs.Prelude.{ℕ, zero, suc, ◌+◌, ◌-◌, ◌/◌, List, [], ◌∷◌, bit_xor, slice_index}
use Rattle.octets.specs.Words.{words}
use Rattle.hashing.specs.Operations.{plus, ch, maj}
use Rattle.hashing.specs.Schedule.{extended}
use Rattle.sha1_hash.specs.Operations.{rotl, parity}

-- Of four things the one for a quarter of the 80 steps, 0, 1, 2 or 3. The step t is in the quarter t / 20.
abbrev pub in_quarter : {A : Type 0} → A → A → A → A → ℕ → A
in_quarter a b c d zero = a
in_quarter a b c d (suc zero) = b
in_quarter a b c d (suc (suc zero)) = c
in_quarter a b c d (suc (suc (suc n))) = d

-- 4.1.1: f_t.
unfoldable pub step_function : ℕ → ℕ → ℕ → ℕ → ℕ
step_function t = in_quarter ch parity maj parity (t / 20)

-- 4.2.1: K_t.
unfoldable pub step_constant : ℕ → ℕ
step_constant t = in_quarter 0x5a827999 0x6ed9eba1 0x8f1bbcdc 0xca62c1d6 (t / 20)

-- 6.1.2, item 1: W_t for t from 16 on, of the words before it.
abbrev pub next_word : List ℕ → ℕ → ℕ
next_word w t = rotl 1 (bit_xor (bit_xor (bit_xor (slice_index w (t - 3)) (slice_index w (t - 8))) (slice_index w (t - 14))) (slice_index w (t - 16)))

-- 6.1.2, item 1: the message schedule W_0 to W_79 of the block m. Its first 16 words are the block's (5.2.1).
unfoldable pub schedule : List ℕ → List ℕ
schedule m = extended next_word (words 16 m) 64

-- The working variables a, b, c, d and e.
pub data Variables : Type 0 where
  vars : ℕ → ℕ → ℕ → ℕ → ℕ → Variables

-- 6.1.2, item 2: a to e from the hash value h.
abbrev pub start : List ℕ → Variables
start h = vars (slice_index h 0) (slice_index h 1) (slice_index h 2) (slice_index h 3) (slice_index h 4)

-- 6.1.2, item 3: the step t, with the word W_t. The new a is T.
unfoldable pub step : ℕ → ℕ → Variables → Variables
step t w (vars a b c d e) =
    vars (plus (plus (plus (plus (rotl 5 a) (step_function t b c d)) e) (step_constant t)) w) a (rotl 30 b) c d

-- n steps from the step t on, with the schedule w.
unfoldable pub steps : List ℕ → ℕ → ℕ → Variables → Variables
steps w t zero x = x
steps w t (suc n) x = step (t + n) (slice_index w (t + n)) (steps w t n x)

-- 6.1.2, item 4: the variables added to the hash value h.
unfoldable pub added : List ℕ → Variables → List ℕ
added h (vars a b c d e) =
    plus a (slice_index h 0) ∷ plus b (slice_index h 1) ∷ plus c (slice_index h 2) ∷ plus d (slice_index h 3) ∷ plus e (slice_index h 4) ∷ []

-- 6.1.2, items 1 to 4: the hash value after h, by the block m.
unfoldable pub compress : List ℕ → List ℕ → List ℕ
compress h m = added h (steps (schedule m) 0 80 (start h))
