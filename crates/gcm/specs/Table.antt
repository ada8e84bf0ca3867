-- The table of a hash subkey h: sixteen products, of two words each.
-- Assumes nothing.
use Rattle.std.specs.Prelude.{ℕ, ◌+◌, ◌*◌, ◌^◌, ◌<◌, ◌≡◌, List, get_or}
use Rattle.gcm.specs.Field.{mul}

-- Entry i, a block: its first half stands at the place 2 i, its last half behind it.
abbrev pub entry_of : List ℕ → ℕ → ℕ
entry_of m i = get_or m (2 * i) 0 * 2 ^ 64 + get_or m (2 * i + 1) 0

-- The block whose first four bits are i, bit 0 counting 8, the rest zero.
abbrev pub four_bits : ℕ → ℕ
four_bits i = i * 2 ^ 124

-- The first n of the sixteen entries are right: each is its four bits times h, by SP 800-38D's product. Entry 8 is h itself.
pub record Entries (h : ℕ) (m : List ℕ) (n : ℕ) : Type 0 where
  pub entry : (i : ℕ) → i < n → entry_of m i ≡ mul (four_bits i) h
