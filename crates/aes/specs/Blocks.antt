-- A block of four words, as a byte string.
-- Assumes nothing.
use Rattle.std.specs.Prelude.{ℕ, List, [], ◌∷◌}
use Rattle.octets.specs.Words.{word_bytes}
use Rattle.aes.specs.declared.block.Block.{Block}

abbrev pub state : Block → List ℕ
state x = word_bytes (x.a ∷ x.b ∷ x.c ∷ x.d ∷ [])
