-- The values of the 256 bytes as characters of base64url.
-- Assumes nothing.
use Rattle.std.specs.Prelude.{ℕ, zero, suc, List, [], ◌∷◌}
use Rattle.encoding.specs.Base64url.{value}

-- Of n characters, from c on.
unfoldable pub values_from : ℕ → ℕ → List ℕ
values_from zero c = []
values_from (suc n) c = value c ∷ values_from n (suc c)

unfoldable pub value_table : List ℕ
value_table = values_from 256 0
