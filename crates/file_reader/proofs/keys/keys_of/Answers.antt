-- `keys_of`: the MAC key is kept in SIV_CTRMAC only.
-- Assumes nothing.
use Prim.Native.Nat.{ℕ}
use mathlib.Core.Path.{sym, ap}
use mathlib.Core.List.{List}
use Rattle.vault.specs.declared.record.Combo.{Combo}
use Rattle.file_reader.specs.Kept.{keys_with, mac_for}
use Rattle.file_reader.proofs.keys.keys_of.Goals as goal

pub returns-in-SivGcm : goal.returns-in-SivGcm
returns-in-SivGcm c = let x = c.args in ap (λ (m : List ℕ). keys_with x.content m x.combo) (sym (ap (λ (k : Combo). mac_for k x.mac) c.in-SivGcm.is))

pub returns-in-SivCtrmac : goal.returns-in-SivCtrmac
returns-in-SivCtrmac c = let x = c.args in ap (λ (m : List ℕ). keys_with x.content m x.combo) (sym (ap (λ (k : Combo). mac_for k x.mac) c.in-SivCtrmac.is))
