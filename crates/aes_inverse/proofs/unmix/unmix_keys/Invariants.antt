-- `unmix_keys`: at each turn the words from 4 up to i are unmixed.
-- Assumes nothing.
use Rattle.aes_inverse.specs.RoundKeys.{UnmixedKeys}
use Rattle.aes_inverse.proofs.unmix.unmix_keys.Given as goal

abbrev pub invariant-loop-i : goal.invariant-loop-i
invariant-loop-i l = UnmixedKeys l.w l.v l.i
