-- `key_words`: after i turns the first i words are the key's.
-- Assumes nothing.
use mathlib.Core.Path.{◌≡◌}
use mathlib.Core.List.{◌++◌}
use lib.ListN.{drop}
use Rattle.octets.specs.Words.{words}
use Rattle.aes.proofs.key.key_words.Given as goal

abbrev pub invariant-loop-i : goal.invariant-loop-i
invariant-loop-i l = l.w ≡ words l.i l.key ++ drop l.i l.initial.w
