-- The ranges of the grammar, and the alternatives of UTF8-3 and UTF8-4.
-- Assumes nothing.
use Prim.Native.Nat.{ℕ, zero, suc, ◌<◌, ◌≤◌}
use mathlib.Core.Path.{◌≡◌}
use mathlib.Core.Bool.{Bool, true, false, ◌&&◌, and-false}
use lib.Dec.{leb}
use borrow.Author.Tests.{leb-true, le-leb, lt-leb}
use Rattle.octets.proofs.Equality.{and_true, true_and}
use Rattle.utf8.specs.Utf8.{within, tail}

-- ---- ranges

abbrev pub In : ℕ → ℕ → ℕ → Type 0
In lo hi b = (lo ≤ b) × (b ≤ hi)

module _ (lo hi b : ℕ) where
  pub in_range : within lo hi b ≡ true → In lo hi b
  in_range h = let p = and_true (leb lo b) (leb b hi) h in (leb-true lo b p.0, leb-true b hi p.1)

  pub ranged : lo ≤ b → b ≤ hi → within lo hi b ≡ true
  ranged p q = true_and (leb lo b) (leb b hi) (le-leb lo b p) (le-leb b hi q)

  pub under : b < lo → within lo hi b ≡ false
  under h = rw (lt-leb lo b h)

  pub over : hi < b → within lo hi b ≡ false
  over h = rw (lt-leb b hi h, and-false)

-- ---- alternatives

abbrev pub of3 : ℕ → ℕ → ℕ → ℕ → Bool
of3 zero a b c = within 0xe0 0xe0 a && within 0xa0 0xbf b && tail c
of3 (suc zero) a b c = within 0xe1 0xec a && tail b && tail c
of3 (suc (suc zero)) a b c = within 0xed 0xed a && within 0x80 0x9f b && tail c
of3 (suc (suc (suc k))) a b c = within 0xee 0xef a && tail b && tail c

abbrev pub of4 : ℕ → ℕ → ℕ → ℕ → ℕ → Bool
of4 zero a b c d = within 0xf0 0xf0 a && within 0x90 0xbf b && tail c && tail d
of4 (suc zero) a b c d = within 0xf1 0xf3 a && tail b && tail c && tail d
of4 (suc (suc k)) a b c d = within 0xf4 0xf4 a && within 0x80 0x8f b && tail c && tail d
