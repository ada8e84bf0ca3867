-- The room for a written name, of which n is the number of characters of the full name.
-- Assumes nothing.
use Prim.Native.Nat.{ℕ, ◌≤◌, ◌<◌}
use mathlib.Core.Path.{◌≡◌}
use mathlib.Core.Bool.{true, false}
use borrow.Author.Tests.{lt-ltb, le-ltb}
use Rattle.name_spec.specs.Names.{short}
use Rattle.name_spec.specs.Calls.{hash_length, lacks_room}

module _ (threshold a b n : ℕ) where
  pub plain-lacks : short threshold n ≡ true → a < n → lacks_room threshold a b n ≡ true
  plain-lacks s h = rw (s, lt-ltb a n h)

  pub plain_has : short threshold n ≡ true → n ≤ a → lacks_room threshold a b n ≡ false
  plain_has s h = rw (s, le-ltb a n h)

  module _ (s : short threshold n ≡ false) where
    pub stored-lacks : a < hash_length → lacks_room threshold a b n ≡ true
    stored-lacks h = rw (s, lt-ltb a hash_length h)

    pub full-lacks : hash_length ≤ a → b < n → lacks_room threshold a b n ≡ true
    full-lacks h k = rw (s, le-ltb a hash_length h, lt-ltb b n k)

    pub both_have : hash_length ≤ a → n ≤ b → lacks_room threshold a b n ≡ false
    both_have h k = rw (s, le-ltb a hash_length h, le-ltb b n k)
