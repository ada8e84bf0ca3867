-- `primitives_gcm_seal`: what the test of the sizes says.
-- Assumes nothing.
use mathlib.Core.Path.{sym, ◌∙◌}
use Rattle.primitives.proofs.Ends.{fits_facts}
use Rattle.primitives.proofs.authenticated.primitives_gcm_seal.Goals as goal

pub seal_under-requires-clause-key_len : goal.seal_under-requires-clause-key_len
seal_under-requires-clause-key_len c = fits_facts _ _ _ _ (sym c.gcm_fits.ensures ∙ c.if-not-gcm_fits.false)
