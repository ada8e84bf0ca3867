-- The constant is the alphabet, letter by letter.
-- Assumes nothing.
use mathlib.Core.Path.{refl}
use Rattle.encoding.specs.Base32.{alphabet}
use Rattle.encoding.proofs.base32.letters.Goals as goal

pub returns : goal.returns
unfolding alphabet
returns c = refl
