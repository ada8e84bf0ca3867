-- `full_length`: the characters of the sealed name, and the end.
-- Assumes nothing.
use native.Mathlib.Omega.{arith}
use Rattle.encoding.specs.Base64url.{encoded_length}
use Rattle.name_texts.proofs.texts.full_length.Goals as goal

pub overflow_add-result : goal.overflow_add-result
unfolding encoded_length
overflow_add-result c = let n = c.requires in omega (arith, c.encoded_length.ensures, n)
