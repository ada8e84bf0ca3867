-- `in_use`: whether x is the nonce of one of all chunks is whether it is that of one from i on.
-- Assumes nothing.
use Prim.Native.Nat.{◌-◌, ◌≤◌}
use mathlib.Core.Path.{◌≡◌}
use Rattle.vault.specs.Vault.{sizes_of}
use Rattle.mend_spec.specs.Mend.{in_use}
use Rattle.file_mend.proofs.nonces.in_use.Given as goal

abbrev pub invariant-loop-i : goal.invariant-loop-i
invariant-loop-i l = (l.i ≤ l.k) × (in_use (sizes_of l.combo) l.x l.file 0 l.k ≡ in_use (sizes_of l.combo) l.x l.file l.i (l.k - l.i))
