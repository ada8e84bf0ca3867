-- The rule for the words of the message schedule.
-- Assumes nothing.
use Rattle.std.proofs.Common.{◌≡◌, ℕ, ◌-◌, ◌<◌, ◌≤◌, List, take, arith, get_or-take}
use Rattle.sha1_hash.specs.Compression.{next_word}

-- W_t depends on the words before it only.
pub next_front : (w : List ℕ) (t : ℕ) → 16 ≤ t → next_word (take t w) t ≡ next_word w t
next_front w t h =
    let a : t - 3 < t = omega arith in
    let b : t - 8 < t = omega arith in
    let c : t - 14 < t = omega arith in
    let d : t - 16 < t = omega arith in
    rw (get_or-take t w (t - 3) 0 a, get_or-take t w (t - 8) 0 b, get_or-take t w (t - 14) 0 c, get_or-take t w (t - 16) 0 d)
