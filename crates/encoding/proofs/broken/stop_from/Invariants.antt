-- `stop_from`: the walk from the start is the walk from the character reached.
-- Assumes nothing.
use mathlib.Core.Path.{◌≡◌}
use lib.Dec.{leb}
use lib.ListN.{drop}
use Rattle.encoding.specs.Broken.{stop_from}
use Rattle.encoding.specs.Leading.{before}
use Rattle.encoding.proofs.broken.stop_from.Given as goal

abbrev pub invariant-loop-i : goal.invariant-loop-i
invariant-loop-i l = stop_from l.padded l.least (λ n. leb n l.most) l.from (before l.text l.from) (drop l.from l.text) ≡ stop_from l.padded l.least (λ n. leb n l.most) l.i (before l.text l.i) (drop l.i l.text)
