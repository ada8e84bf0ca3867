-- The constant is the alphabet, letter by letter.
-- Assumes nothing.
use mathlib.Core.Path.{refl}
use Rattle.encoding.specs.Base64url.{alphabet}
use Rattle.encoding.proofs.alphabet.letters.Goals as goal

pub invariant_of-result : goal.invariant_of-result
unfolding alphabet
invariant_of-result c = record { standard = refl }
