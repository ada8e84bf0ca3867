-- What the theorems say of the vault as bytes.
-- Assumes nothing.
use Rattle.std.specs.Prelude.{ℕ, ◌≤◌, ◌≡◌, List, [], ◌∷◌, ◌++◌, length, take, get_or}
use Rattle.octets.specs.Bytes.{Bytes, filled}
use Rattle.octets.specs.Rows.{refused, Rule, numbers, EndsBy}
use Rattle.threshold.specs.Threshold.{ThresholdFits}
use Rattle.frame.specs.Rules.{KeySizes}
use Rattle.vault.specs.declared.record.Combo.TheVariants.{SivGcm, SivCtrmac}
use Rattle.vault.specs.declared.record.Vault.{Vault}
use Rattle.vault.specs.Vault.{vault_with, Keys}
use Rattle.vault_bytes.specs.VaultBytes.{store_vault, vault_in, lent, lent_name}

-- 1 or 2.
abbrev pub KnownCombo : ℕ → Type 0
KnownCombo n = (n ≡ 1 → ⊥) → n ≡ 2

-- Making: both keys have 32 bytes (1), there is room for 66 (7), the combo's number is 1 or 2 (17), the threshold is from 36 to 220 (18).
abbrev pub store_vault_rules : List ℕ → List ℕ → ℕ → ℕ → ℕ → List Rule
store_vault_rules enc mac n threshold room =
    (KeySizes enc mac, refused 1)
    ∷ (66 ≤ room, refused 7)
    ∷ (KnownCombo n, refused 17)
    ∷ (ThresholdFits threshold, refused 18)
    ∷ []

-- The making goes by its rules, exactly, in the order of their numbers, and leaves the encryption master key, the MAC master key, the combo's number and the
-- threshold at the front of the buffer.
abbrev pub StoresExactly : Type 0
StoresExactly =
    (enc mac out : List ℕ) (n threshold : ℕ)
    → EndsBy (store_vault_rules enc mac n threshold (length out)) (66 ∷ []) (filled (enc ++ mac ++ n ∷ threshold ∷ []) 66 out) out (store_vault enc mac n threshold out)
    × (numbers (store_vault_rules enc mac n threshold (length out)) ≡ 1 ∷ 7 ∷ 17 ∷ 18 ∷ [])

-- Lending, to any call but the three on names: bytes that are not 66 get row 1; 66 whose last but one is neither 1 nor 2 get row 17; two keys of 32 bytes, a 1
-- and a threshold get what the call comes to under the record of these keys, SIV_GCM and that threshold, with a 2 under that of SIV_CTRMAC, and any byte is
-- taken as a threshold. No bytes are left out: 66 whose last but one is 1 or 2 are two keys, that number and a threshold.
abbrev pub LentExactly : Type 1
LentExactly =
    (A : Type 0) (b : List ℕ) (call : Vault → A) (refusal : ℕ → A)
    → ((length b ≡ 66 → ⊥) → lent b call refusal ≡ refusal 1)
    × (length b ≡ 66 → (KnownCombo (get_or b 64 0) → ⊥) → lent b call refusal ≡ refusal 17)
    × ((enc mac : List ℕ) (threshold : ℕ) → KeySizes enc mac
    → (enc ++ mac ++ 1 ∷ threshold ∷ [] ≡ b → lent b call refusal ≡ call (vault_with enc mac SivGcm threshold))
    × (enc ++ mac ++ 2 ∷ threshold ∷ [] ≡ b → lent b call refusal ≡ call (vault_with enc mac SivCtrmac threshold)))
    × (length b ≡ 66 → KnownCombo (get_or b 64 0) → (enc : List ℕ) × (mac : List ℕ) × KeySizes enc mac × (enc ++ mac ++ get_or b 64 0 ∷ get_or b 65 0 ∷ [] ≡ b))

-- Lending, to the three calls on names: bytes that are not 66 get row 1; 66 whose last is below 36 or above 220 get row 18, whatever the combo; with a threshold
-- that fits, row 17 where the last but one is neither 1 nor 2, and else what the call comes to under the record.
abbrev pub LentNameExactly : Type 1
LentNameExactly =
    (A : Type 0) (b : List ℕ) (call : Vault → A) (refusal : ℕ → A)
    → ((length b ≡ 66 → ⊥) → lent_name b call refusal ≡ refusal 1)
    × (length b ≡ 66 → (ThresholdFits (get_or b 65 0) → ⊥) → lent_name b call refusal ≡ refusal 18)
    × (length b ≡ 66 → ThresholdFits (get_or b 65 0) → (KnownCombo (get_or b 64 0) → ⊥) → lent_name b call refusal ≡ refusal 17)
    × ((enc mac : List ℕ) (threshold : ℕ) → KeySizes enc mac → ThresholdFits threshold
    → (enc ++ mac ++ 1 ∷ threshold ∷ [] ≡ b → lent_name b call refusal ≡ call (vault_with enc mac SivGcm threshold))
    × (enc ++ mac ++ 2 ∷ threshold ∷ [] ≡ b → lent_name b call refusal ≡ call (vault_with enc mac SivCtrmac threshold)))

-- The record of 66 bytes has two keys of 32 bytes, as the demands ask for.
abbrev pub LentKeys : Type 0
LentKeys = (b : List ℕ) → Bytes b → length b ≡ 66 → Keys (vault_in b)

-- What was made of two keys of 32 bytes, a combo's number and a threshold from 36 to 220, and is lent to any call, is the record of these keys, that combo and
-- that threshold.
abbrev pub MadeIsLent : Type 1
MadeIsLent =
    (A : Type 0) (enc mac out : List ℕ) (threshold : ℕ) (call : Vault → A) (refusal : ℕ → A) → KeySizes enc mac → ThresholdFits threshold → 66 ≤ length out →
    let gcm = take 66 (store_vault enc mac 1 threshold out).buffer in
    let ctrmac = take 66 (store_vault enc mac 2 threshold out).buffer in
    (lent gcm call refusal ≡ call (vault_with enc mac SivGcm threshold))
    × (lent ctrmac call refusal ≡ call (vault_with enc mac SivCtrmac threshold))
    × (lent_name gcm call refusal ≡ call (vault_with enc mac SivGcm threshold))
    × (lent_name ctrmac call refusal ≡ call (vault_with enc mac SivCtrmac threshold))
