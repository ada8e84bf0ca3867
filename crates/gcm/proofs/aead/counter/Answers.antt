-- `counter`: the nonce's three words and the number.
-- Assumes nothing.
use native.Mathlib.Omega.{arith}
use Rattle.gcm.proofs.Counters.{counter_is}
use Rattle.gcm.proofs.aead.counter.Goals as goal

pub returns : goal.returns
returns c =
    let a = c.args in
    counter_is a.nonce.now (omega arith) a.n (omega arith) c.word_at.ensures.has_bytes c.word_at-2.ensures.has_bytes c.word_at-3.ensures.has_bytes
