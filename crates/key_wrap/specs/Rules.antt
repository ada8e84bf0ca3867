-- What each row of the calls on wrapped keys asks for, in words of sizes; row 20 asks for a right check value, as `good` tests it. `Statements` says
-- that the calls go by these rules, and of which byte strings the check value is right.
-- Assumes nothing.
use Rattle.std.specs.Prelude.{◌≡◌, true, List, [], ◌∷◌, ℕ, ◌≤◌, length}
use Rattle.octets.specs.Rows.{refused, Rule}
use Rattle.aes_inverse.specs.InverseCipher.{inverse_aes}
use Rattle.key_wrap.specs.KeyWrap.{good}

module _ (kek : List ℕ) where
  -- wrapping a key
  abbrev pub wrap_key_rules : List ℕ → ℕ → List Rule
  wrap_key_rules key room =
      ((length kek ≡ 32) × (length key ≡ 32), refused 1)
      ∷ (40 ≤ room, refused 7)
      ∷ []

  -- unwrapping the wrapped key c
  abbrev pub unwrap_key_rules : List ℕ → ℕ → List Rule
  unwrap_key_rules c room =
      (length kek ≡ 32, refused 1)
      ∷ (length c ≡ 40, refused 4)
      ∷ (32 ≤ room, refused 7)
      ∷ (good (inverse_aes 8 kek) c ≡ true, refused 20)
      ∷ []
