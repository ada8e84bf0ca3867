-- SHA-256 of one block: FIPS 180-4, 6.2.2, items 1 to 4. A block is a list of 64 bytes, and a hash value a list of eight words. A hash
-- value, the standard's H(i), is v here; h is a working variable.
-- Assumes nothing.
use Rattle.std.specs.Prelude.{ℕ, zero, suc, ◌-◌, List, [], ◌∷◌, slice_index}
use Rattle.octets.specs.Words.{words}
use Rattle.hashing.specs.Operations.{plus, ch, maj}
use Rattle.hashing.specs.Schedule.{extended}
use Rattle.sha256.specs.Operations.{Σ0, Σ1, σ0, σ1}
use Rattle.sha256.specs.Constants.{constants}

-- 6.2.2, item 1: W_t for t from 16 on, of the words before it.
abbrev pub next_word : List ℕ → ℕ → ℕ
next_word w t = plus (plus (plus (σ1 (slice_index w (t - 2))) (slice_index w (t - 7))) (σ0 (slice_index w (t - 15)))) (slice_index w (t - 16))

-- 6.2.2, item 1: the message schedule W_0 to W_63 of the block m. Its first 16 words are the block's (5.2.1).
unfoldable pub schedule : List ℕ → List ℕ
schedule m = extended next_word (words 16 m) 48

-- The working variables a to h.
pub data Variables : Type 0 where
  vars : ℕ → ℕ → ℕ → ℕ → ℕ → ℕ → ℕ → ℕ → Variables

-- 6.2.2, item 2: a to h from the hash value v.
abbrev pub start : List ℕ → Variables
start v = vars (slice_index v 0) (slice_index v 1) (slice_index v 2) (slice_index v 3) (slice_index v 4) (slice_index v 5) (slice_index v 6) (slice_index v 7)

-- 6.2.2, item 3: T1, with K_t = k and W_t = w; and T2.
abbrev pub T1 : ℕ → ℕ → ℕ → ℕ → ℕ → ℕ → ℕ
T1 e f g h k w = plus (plus (plus (plus h (Σ1 e)) (ch e f g)) k) w

abbrev pub T2 : ℕ → ℕ → ℕ → ℕ
T2 a b c = plus (Σ0 a) (maj a b c)

-- 6.2.2, item 3: one step.
unfoldable pub step : ℕ → ℕ → Variables → Variables
step k w (vars a b c d e f g h) = vars (plus (T1 e f g h k w) (T2 a b c)) a b c (plus d (T1 e f g h k w)) e f g

-- The first n steps, with the schedule w.
unfoldable pub steps : List ℕ → ℕ → Variables → Variables
steps w zero x = x
steps w (suc n) x = step (slice_index constants n) (slice_index w n) (steps w n x)

-- 6.2.2, item 4: the variables added to the hash value v.
unfoldable pub added : List ℕ → Variables → List ℕ
added v (vars a b c d e f g h) =
    plus a (slice_index v 0) ∷ plus b (slice_index v 1) ∷ plus c (slice_index v 2) ∷ plus d (slice_index v 3)
    ∷ plus e (slice_index v 4) ∷ plus f (slice_index v 5) ∷ plus g (slice_index v 6) ∷ plus h (slice_index v 7) ∷ []

-- 6.2.2, items 1 to 4: the hash value after v, by the block m.
unfoldable pub compress : List ℕ → List ℕ → List ℕ
compress v m = added v (steps (schedule m) 64 (start v))
