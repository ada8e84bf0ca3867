-- Making a record.
-- Assumes nothing.
use Rattle.std.specs.Prelude.{ℕ, ◌≡◌, cond, List, [], ◌↔◌, replicate, Result, Ok, Err}
use Rattle.octets.specs.Rows.{Outcome, done, refused}
use Rattle.frame.specs.Frame.{key_size, master_keys_right}
use Rattle.frame.specs.Rules.{KeySizes}
use Rattle.threshold.specs.Threshold.{threshold_right, ThresholdFits}
use Rattle.answer.specs.declared.Refusal.{Refusal}
use Rattle.answer.specs.Meaning.{row}
use Rattle.vault.specs.declared.record.Combo.{Combo}
use Rattle.vault.specs.declared.record.Vault.{Vault}
use Rattle.vault.specs.declared.record.MadeVault.{MadeVault}
use Rattle.vault.specs.Vault.{vault_with}

-- What the making ends in: its outcome, which has no length, and a record.
pub record Making : Type 0 where
  pub outcome : Outcome
  pub vault : Vault

-- What the code's answer means.
abbrev pub meaning : Result Unit Refusal → Outcome
meaning (Ok _) = done []
meaning (Err r) = row r

abbrev pub making : MadeVault → Making
making r = record { outcome = meaning r.made; vault = r.vault }

-- A refusal has a record of keys of zeros and the threshold 0 beside it, under which no name is written or opened.
abbrev pub unmade : Outcome → Combo → Making
unmade o combo = record { outcome = o; vault = vault_with (replicate key_size 0) (replicate key_size 0) combo 0 }

-- Row 1, where a key has not 32 bytes; then row 18, where the threshold is not from 36 to 220.
unfoldable pub make_vault : List ℕ → List ℕ → Combo → ℕ → Making
make_vault enc mac combo threshold =
    cond (master_keys_right enc mac)
    (cond (threshold_right threshold) (record { outcome = done []; vault = vault_with enc mac combo threshold }) (unmade (refused 18) combo))
    (unmade (refused 1) combo)

-- The making succeeds exactly where both keys have 32 bytes and the threshold is from 36 to 220, and the record then holds the keys, the combo and the threshold
-- lent. Where a key has another size, row 1 is given, whatever the threshold; else, with another threshold, row 18; beside either a record of keys of zeros,
-- the combo lent and the threshold 0.
abbrev pub MakesExactly : Type 0
MakesExactly =
    (enc mac : List ℕ) (combo : Combo) (threshold : ℕ) →
    let r = make_vault enc mac combo threshold in
    let none = vault_with (replicate 32 0) (replicate 32 0) combo 0 in
    ((r.outcome ≡ done []) ↔ (KeySizes enc mac × ThresholdFits threshold))
    × ((r.outcome ≡ done []) → (r.vault.enc ≡ enc) × (r.vault.mac ≡ mac) × (r.vault.combo ≡ combo) × (r.vault.threshold ≡ threshold))
    × ((KeySizes enc mac → ⊥) → (r.outcome ≡ refused 1) × (r.vault ≡ none))
    × (KeySizes enc mac → (ThresholdFits threshold → ⊥) → (r.outcome ≡ refused 18) × (r.vault ≡ none))
