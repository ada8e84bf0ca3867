-- What the test of the master keys' sizes says.
-- Assumes nothing.
use Prim.Native.Nat.{ℕ}
use mathlib.Core.Path.{◌≡◌}
use mathlib.Core.Bool.{true}
use mathlib.Core.Logic.{◌↔◌}
use mathlib.Core.List.{List}
use lib.ListN.{length}
use Rattle.octets.proofs.Tests.{eqb_exactly, both_exactly}
use Rattle.frame.specs.Frame.{key_size, master_keys_right}
use Rattle.frame.specs.Rules.{KeySizes}

pub keys_exactly : (enc mac : List ℕ) → (master_keys_right enc mac ≡ true) ↔ KeySizes enc mac
unfolding master_keys_right
keys_exactly enc mac = both_exactly (eqb_exactly (length enc) key_size) (eqb_exactly (length mac) key_size)

pub master_sizes : (enc mac : List ℕ) → master_keys_right enc mac ≡ true → KeySizes enc mac
master_sizes enc mac = (keys_exactly enc mac).0
