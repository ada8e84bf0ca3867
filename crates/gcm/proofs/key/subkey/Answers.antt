-- `subkey`: the block of zeros, enciphered.
-- Assumes nothing.
use mathlib.Core.Path.{◌∙◌, ap}
use Rattle.octets.specs.BigEndian.{int}
use Rattle.octets.specs.Words.{word_bytes}
use Rattle.gcm.specs.Gcm as spec
use Rattle.gcm.proofs.key.subkey.Goals as goal

pub returns : goal.returns
unfolding spec.subkey word_bytes
returns c = c.from.ensures ∙ ap int c.encrypt.ensures
