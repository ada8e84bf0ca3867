-- `whole`: by the padding.
-- Assumes nothing.
use Rattle.encoding.specs.Base64url.{whole}
use Rattle.encoding.proofs.base64url.whole.Goals as goal

pub returns-then-padded : goal.returns-then-padded
unfolding whole
returns-then-padded c = rw c.if-padded.true

pub returns : goal.returns
unfolding whole
returns c = rw c.if-padded.false
