-- The vault's record as bytes, the form in which C callers lend it.
-- Assumes nothing.
use Rattle.std.specs.Prelude.{ℕ, Bool, ◌||◌, not, cond, List, [], ◌∷◌, ◌++◌, eqb, ltb, length, take, drop, get_or}
use Rattle.octets.specs.Bytes.{filled}
use Rattle.octets.specs.Rows.{done, refused, Row, answer, End, ended, ending}
use Rattle.threshold.specs.Threshold.{threshold_right}
use Rattle.frame.specs.Frame.{key_size, master_keys_right}
use Rattle.vault.specs.declared.record.Combo.{Combo}
use Rattle.vault.specs.declared.record.Combo.TheVariants.{SivGcm, SivCtrmac}
use Rattle.vault.specs.declared.record.Vault.{Vault}
use Rattle.vault.specs.Vault.{vault_with}

-- Two master keys of 32 bytes, a byte for the combo and one for the threshold.
abbrev pub vault_size : ℕ
vault_size = 66

-- Where the combo's byte stands.
abbrev pub combo_place : ℕ
combo_place = 64

-- Where the threshold's byte stands.
abbrev pub threshold_place : ℕ
threshold_place = 65

-- ---- the combo's number

-- 1 is SIV_GCM, 2 is SIV_CTRMAC.
unfoldable pub combo_known : ℕ → Bool
combo_known n = eqb n 1 || eqb n 2

-- The combo of a known number.
unfoldable pub combo_of : ℕ → Combo
combo_of n = cond (eqb n 1) SivGcm SivCtrmac

-- ---- making

-- The encryption master key, the MAC master key, the combo's number and the threshold.
abbrev pub joined : List ℕ → List ℕ → ℕ → ℕ → List ℕ
joined enc mac n threshold = enc ++ mac ++ n ∷ threshold ∷ []

-- a key's size (1), the buffer too short (7), the combo unknown (17), the threshold outside its limits (18)
unfoldable pub store_vault_rows : List ℕ → List ℕ → ℕ → ℕ → ℕ → List Row
store_vault_rows enc mac n threshold room =
    (not (master_keys_right enc mac), refused 1)
    ∷ (ltb room vault_size, refused 7)
    ∷ (not (combo_known n), refused 17)
    ∷ (not (threshold_right threshold), refused 18)
    ∷ []

unfoldable pub store_vault : List ℕ → List ℕ → ℕ → ℕ → List ℕ → End
store_vault enc mac n threshold out =
    ending (answer (store_vault_rows enc mac n threshold (length out)) (done (vault_size ∷ []))) (filled (joined enc mac n threshold) vault_size out) out

-- ---- lending

-- The row that the bytes b give in place of a vault, tried before every row of a call: another number of bytes (1), the combo unknown (17); 0 where they
-- are a vault. The threshold is not looked at.
unfoldable pub lent_row : List ℕ → ℕ
lent_row b = cond (eqb (length b) vault_size) (cond (combo_known (get_or b combo_place 0)) 0 17) 1

-- The row that they give at the three calls on names: another number of bytes (1), the threshold outside its limits (18), the combo unknown (17).
unfoldable pub lent_name_row : List ℕ → ℕ
lent_name_row b = cond (eqb (length b) vault_size) (cond (threshold_right (get_or b threshold_place 0)) (lent_row b) 18) 1

-- The record that the bytes of a vault stand for.
unfoldable pub vault_in : List ℕ → Vault
vault_in b = vault_with (take key_size b) (take key_size (drop key_size b)) (combo_of (get_or b combo_place 0)) (get_or b threshold_place 0)

-- What a call comes to that is lent the bytes b, which give this row: the row, or what it comes to under the record.
unfoldable pub lent_by : {A : Type 0} → ℕ → List ℕ → (Vault → A) → (ℕ → A) → A
lent_by row b call refusal = cond (eqb row 0) (call (vault_in b)) (refusal row)

-- A call that is none of the three on names.
abbrev pub lent : {A : Type 0} → List ℕ → (Vault → A) → (ℕ → A) → A
lent b call refusal = lent_by (lent_row b) b call refusal

-- One of the three calls on names.
abbrev pub lent_name : {A : Type 0} → List ℕ → (Vault → A) → (ℕ → A) → A
lent_name b call refusal = lent_by (lent_name_row b) b call refusal

-- A call with the buffer `out`, which the row of the lent bytes leaves as it was.
abbrev pub lent_end : List ℕ → (Vault → End) → List ℕ → End
lent_end b call out = lent b call (λ row. ended (refused row) out)

-- The opening of a name into `out`.
abbrev pub lent_name_end : List ℕ → (Vault → End) → List ℕ → End
lent_name_end b call out = lent_name b call (λ row. ended (refused row) out)
