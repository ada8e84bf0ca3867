-- `encoded_length`: by the padding.
-- Assumes nothing.
use native.Mathlib.Omega.{arith}
use Rattle.encoding.specs.Base64url.{encoded_length}
use Rattle.encoding.proofs.base64url.encoded_length.Goals as goal

pub returns-then-padded : goal.returns-then-padded
unfolding encoded_length
returns-then-padded c = rw c.if-padded.true

pub returns : goal.returns
unfolding encoded_length
returns c = rw c.if-padded.false (omega arith)
