-- `primitives_gcm_open`: what the test of the sizes says.
-- Assumes nothing.
use mathlib.Core.Path.{sym, ◌∙◌}
use native.Mathlib.Omega.{arith}
use Rattle.primitives.proofs.Ends.{fits_facts}
use Rattle.primitives.proofs.authenticated.primitives_gcm_open.Goals as goal

pub open_under-requires-clause-key_len : goal.open_under-requires-clause-key_len
open_under-requires-clause-key_len c =
    let f = fits_facts _ _ _ _ (sym c.gcm_fits.ensures ∙ c.if-not-gcm_fits.false) in
    (f.0, f.1, f.2, omega (arith, f.3))
