-- `clear_by`: the length rule's quotient and remainder.
-- Assumes nothing.
use native.Mathlib.Omega.{arith}
use Rattle.frame.specs.Layout.{clear_length}
use Rattle.vault.proofs.lengths.clear_by.Goals as goal

pub returns : goal.returns
unfolding clear_length
returns c = rw (c.saturating_sub.ensures, c.saturating_sub-rest.ensures) (omega arith)
