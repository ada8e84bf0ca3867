-- What a function is lent to work under a key: the round table t, the key schedule w, and the table m of the hash subkey under that
-- same schedule.
-- Assumes nothing.
use Rattle.std.specs.Prelude.{ℕ, ◌≤◌, ◌≡◌, List, length}
use Rattle.aes_spec.specs.RoundTable.{round_table}
use Rattle.aes_spec.specs.Cipher.{cipher}
use Rattle.gcm.specs.Gcm.{subkey}
use Rattle.gcm.specs.Table.{Entries}

abbrev pub Keyed : List ℕ → List ℕ → List ℕ → Type 0
Keyed t w m = (t ≡ round_table) × (60 ≤ length w) × Entries (subkey (cipher 14 w)) m 16
