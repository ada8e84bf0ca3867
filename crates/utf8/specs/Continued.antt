-- What may follow once the first byte of a character was read: for the contracts of the code.
-- Assumes nothing.
use Rattle.std.specs.Prelude.{◌≡◌, ℕ, zero, suc, ◌<◌, Bool, true, false, ◌&&◌, List, [], ◌∷◌, drop}
use Rattle.utf8.specs.Utf8.{within, well_formed}
use Rattle.utf8.specs.ProperText.{lacks}
use Rattle.utf8.specs.declared.Awaited.{Awaited}

-- The bytes s go on well: n tails, the first of them from lo to hi, the others from 80 to BF, and well-formed UTF-8 behind them. With no tail,
-- lo and hi do not count.
unfoldable pub continued : ℕ → ℕ → ℕ → List ℕ → Bool
continued zero lo hi s = well_formed s
continued (suc n) lo hi [] = false
continued (suc n) lo hi (b ∷ s) = within lo hi b && continued n 0x80 0xbf s

-- The bytes s begin with such n tails.
unfoldable pub tails_from : ℕ → ℕ → ℕ → List ℕ → Bool
tails_from zero lo hi s = true
tails_from (suc n) lo hi [] = false
tails_from (suc n) lo hi (b ∷ s) = within lo hi b && tails_from n 0x80 0xbf s

-- The bytes s go on as w awaits.
abbrev pub goes_on : Awaited → List ℕ → Bool
goes_on w s = continued w.tails w.low w.high s

-- Of bytes below 80, s lacks from the place i on those that it lacks from the place j on; so it is where none stands between them.
abbrev pub Passed : List ℕ → ℕ → ℕ → Type 0
Passed s i j = (b : ℕ) → b < 0x80 → lacks b (drop i s) ≡ lacks b (drop j s)
