-- The rule for the words of the message schedule.
-- Assumes nothing.
use Rattle.std.proofs.Common.{◌≡◌, ℕ, ◌-◌, ◌<◌, ◌≤◌, List, take, arith, get_or-take}
use Rattle.sha256.specs.Compression.{next_word}

-- W_t depends on the words before it only.
pub next_front : (w : List ℕ) (t : ℕ) → 16 ≤ t → next_word (take t w) t ≡ next_word w t
next_front w t h =
    let a : t - 2 < t = omega arith in
    let b : t - 7 < t = omega arith in
    let c : t - 15 < t = omega arith in
    let d : t - 16 < t = omega arith in
    rw (get_or-take t w (t - 2) 0 a, get_or-take t w (t - 7) 0 b, get_or-take t w (t - 15) 0 c, get_or-take t w (t - 16) 0 d)
