-- `proper_text`: character after character, the rest of the text is proper exactly when all of it is.
-- Assumes nothing.
use Prim.Native.Nat.{ℕ, ◌≤◌}
use mathlib.Core.Path.{◌≡◌, sym, ◌∙◌}
use mathlib.Core.Bool.{true}
use mathlib.Core.List.{List}
use native.Mathlib.Omega.{arith}
use lib.ListN.{length, drop}
use Rattle.octets.proofs.Lists.{drop_all}
use Rattle.utf8.specs.Utf8.{well_formed}
use Rattle.utf8.specs.ProperText.{lacks, proper_text}
use Rattle.utf8.proofs.proper_text.Goals as goal

-- No bytes are left.
over : (s : List ℕ) (i : ℕ) → length s ≤ i → proper_text (drop i s) ≡ true
unfolding proper_text well_formed lacks
over s i h = rw (drop_all i s h)

pub returns : goal.returns
returns c = let l = c.loop-i in sym (l.invariant.1 ∙ over c.args.s.now l.i (omega arith))
