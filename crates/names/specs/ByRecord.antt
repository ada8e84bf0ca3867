-- The calls on names and directory paths under the vault's record: they go by its two keys, those on names by its threshold too, and none by its combo.
-- Assumes nothing.
use Rattle.std.specs.Prelude.{◌≡◌, List, ℕ}
use Rattle.octets.specs.Rows.{End}
use Rattle.name_spec.specs.Calls as calls
use Rattle.vault.specs.declared.record.Combo.{Combo}
use Rattle.vault.specs.declared.record.Vault.{Vault}
use Rattle.vault.specs.Vault.{vault_with}

module _ (v : Vault) (id : List ℕ) where
  abbrev pub dir_path : List ℕ → End
  dir_path = calls.dir_path v.enc v.mac id

  abbrev pub write_name : List ℕ → List ℕ → List ℕ → calls.NameEnd
  write_name = calls.write_name v.threshold v.enc v.mac id

  abbrev pub open_name : List ℕ → List ℕ → End
  open_name = calls.open_name v.threshold v.enc v.mac id

  abbrev pub open_long_name : List ℕ → List ℕ → List ℕ → End
  open_long_name = calls.open_long_name v.threshold v.enc v.mac id

-- Under every combo each call ends as the definition of names has it, with the record's threshold, under the encryption master key and then the MAC master
-- key; the path whatever the threshold.
abbrev pub NamesOfAnyCombo : Type 0
NamesOfAnyCombo =
    (enc mac id s t out : List ℕ) (k : Combo) (threshold : ℕ) →
    let v = vault_with enc mac k threshold in
    (dir_path v id out ≡ calls.dir_path enc mac id out)
    × (write_name v id s t out ≡ calls.write_name threshold enc mac id s t out)
    × (open_name v id s out ≡ calls.open_name threshold enc mac id s out)
    × (open_long_name v id s t out ≡ calls.open_long_name threshold enc mac id s t out)
