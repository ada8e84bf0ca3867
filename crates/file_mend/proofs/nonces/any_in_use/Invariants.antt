-- `any_in_use`: whether one of all nonces is in use is whether one of those from i on is.
-- Assumes nothing.
use Prim.Native.Nat.{◌-◌, ◌*◌, ◌≤◌}
use mathlib.Core.Path.{◌≡◌}
use lib.ListN.{drop}
use Rattle.frame.specs.Layout.{chunks}
use Rattle.vault.specs.Vault.{sizes_of}
use Rattle.mend_spec.specs.Mend.{any_in_use}
use Rattle.file_mend.proofs.nonces.any_in_use.Given as goal

abbrev pub invariant-loop-i : goal.invariant-loop-i
invariant-loop-i l = (l.i ≤ l.k) × (any_in_use (sizes_of l.combo) l.k l.nonces l.file (chunks l.n) ≡ any_in_use (sizes_of l.combo) (l.k - l.i) (drop ((sizes_of l.combo).nonce * l.i) l.nonces) l.file (chunks l.n))
