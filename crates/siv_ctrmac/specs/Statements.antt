-- What holds of headers and chunks as they are stored. `proofs/Sealed.antt` proves it under its name.
-- Assumes nothing.
use Rattle.std.specs.Prelude.{ℕ, ◌-◌, ◌≡◌, List, ◌++◌, length, take, drop}
use Rattle.ctr.specs.Ctr.{BlockCipher}
use Rattle.siv_ctrmac.specs.SivCtrmac.{sealed}

-- The last 32 bytes are the MAC of the data and of all bytes before them.
abbrev pub MacCovers : Type 0
MacCovers =
    (e : List ℕ → List ℕ) → BlockCipher e → (m : List ℕ → List ℕ) → ((s : List ℕ) → length (m s) ≡ 32) → (a n p : List ℕ) → length n ≡ 16 →
    let b = sealed e m a n p in
    drop (length b - 32) b ≡ m (a ++ take (length b - 32) b)
