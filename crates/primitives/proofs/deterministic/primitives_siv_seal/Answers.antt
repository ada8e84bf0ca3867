-- `primitives_siv_seal`: what the test of the sizes says.
-- Assumes nothing.
use mathlib.Core.Path.{sym, ◌∙◌}
use lib.Seq.{length-take-le}
use Rattle.primitives.proofs.Ends.{siv_facts}
use Rattle.primitives.proofs.deterministic.primitives_siv_seal.Goals as goal

pub seal_under-requires : goal.seal_under-requires
seal_under-requires c =
    let f = siv_facts _ _ _ (sym c.siv_fits.ensures ∙ c.if-not-siv_fits.false) in
    (f.0, f.1, f.2, length-take-le _ c.args.out.now c.if-out-n.false)
