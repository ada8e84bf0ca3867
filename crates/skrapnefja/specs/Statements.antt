-- What the theorems say of what C callers see: the numbers, and a lent vault that is none.
-- Assumes nothing.
use Rattle.std.specs.Prelude.{ℕ, ◌^◌, ◌<◌, ◌≤◌, ◌≡◌, List, [], ◌∷◌, ◌++◌, length, take, get_or}
use Rattle.octets.specs.Bytes.{Bytes}
use Rattle.octets.specs.BigEndian.{be, int}
use Rattle.octets.specs.Rows.{done, refused, refused_at, End, ended}
use Rattle.threshold.specs.Threshold.{ThresholdFits}
use Rattle.name_spec.specs.Calls.{NameEnd, name_ended}
use Rattle.name_spec.specs.Calls as calls
use Rattle.vault.specs.declared.record.Vault.{Vault}
use Rattle.frame.specs.Rules.{KeySizes}
use Rattle.label_spec.specs.Label.{open_label}
use Rattle.vault.specs.Vault.{vault_with}
use Rattle.vault_bytes.specs.VaultBytes.{combo_of, store_vault, lent, lent_name, lent_end, lent_name_end}
use Rattle.vault_bytes.specs.Statements.{KnownCombo}
use Rattle.skrapnefja.specs.Results.{written_after, full_length_after, reserved_after, at_after, combo_after, threshold_after, lent_writer_end, path_end, plain_result, result_of, header_result, header_result_of, placed_result, placed_result_of, name_result, name_result_of, label_result, label_result_of}

-- Where a success returns eight bytes behind the length, as that of the header opener does, they are the bytes of `reserved`, the highest first, which
-- has no others; and a refusal leaves `reserved`.
abbrev pub ReservedBytes : Type 0
ReservedBytes =
    ((n before : ℕ) (r : List ℕ) → length r ≡ 8 → Bytes r → (be 8 (reserved_after (done (n ∷ r)) before) ≡ r) × (reserved_after (done (n ∷ r)) before < 2 ^ 64))
    × ((row at before : ℕ) → (reserved_after (refused row) before ≡ before) × (reserved_after (refused_at row at) before ≡ before))

-- A refusal leaves both lengths, and the combo and the threshold of a label; and `at`, unless it returns a number, which `at` then is.
abbrev pub RefusalLeaves : Type 0
RefusalLeaves =
    (row i before : ℕ)
    → (written_after (refused row) before ≡ before) × (full_length_after (refused row) before ≡ before) × (at_after (refused row) before ≡ before)
    × (written_after (refused_at row i) before ≡ before) × (full_length_after (refused_at row i) before ≡ before) × (at_after (refused_at row i) before ≡ i)
    × (combo_after (refused row) before ≡ before) × (threshold_after (refused row) before ≡ before)
    × (combo_after (refused_at row i) before ≡ before) × (threshold_after (refused_at row i) before ≡ before)

-- A success writes what it returns: the length, and behind it that of a shortened name's full name, 0 for any other; of a label the combo's number, and behind it
-- the threshold. It leaves `at`.
abbrev pub SuccessWrites : Type 0
SuccessWrites =
    (n m before : ℕ)
    → (written_after (done (n ∷ [])) before ≡ n) × (full_length_after (done (n ∷ [])) before ≡ 0)
    × (written_after (done (n ∷ m ∷ [])) before ≡ n) × (full_length_after (done (n ∷ m ∷ [])) before ≡ m)
    × (combo_after (done (n ∷ m ∷ [])) before ≡ n) × (threshold_after (done (n ∷ m ∷ [])) before ≡ m)
    × ((lengths : List ℕ) → at_after (done lengths) before ≡ before)

-- What a function leaves tells the whole of what its call ends in: a success the number 0, its buffers and what it returns; a refusal its row, the buffers as they ended and the number that
-- it bears; and nothing else.
abbrev pub ResultsTell : Type 0
ResultsTell =
    (out full bytes : List ℕ) (row i n m l a b : ℕ)
    → (result_of (ended (done (n ∷ [])) out) l ≡ plain_result 0 out n)
    × (result_of (ended (refused row) out) l ≡ plain_result row out l)
    × (header_result_of (ended (done (n ∷ bytes)) out) l a ≡ header_result 0 out n (int bytes))
    × (header_result_of (ended (refused row) out) l a ≡ header_result row out l a)
    × (placed_result_of (ended (done (n ∷ [])) out) l a ≡ placed_result 0 out n a)
    × (placed_result_of (ended (refused row) out) l a ≡ placed_result row out l a)
    × (placed_result_of (ended (refused_at row i) out) l a ≡ placed_result row out l i)
    × (name_result_of (name_ended (done (n ∷ [])) out full) l a ≡ name_result 0 out full n 0)
    × (name_result_of (name_ended (done (n ∷ m ∷ [])) out full) l a ≡ name_result 0 out full n m)
    × (name_result_of (name_ended (refused row) out full) l a ≡ name_result row out full l a)
    × (label_result_of (done (n ∷ m ∷ [])) l a b ≡ label_result 0 n m b)
    × (label_result_of (refused row) l a b ≡ label_result row l a b)
    × (label_result_of (refused_at row i) l a b ≡ label_result row l a i)

-- Any call but the three on names that is lent the bytes b as a vault returns this row, and leaves its buffer and every number as they were.
abbrev pub GivesRow : List ℕ → ℕ → Type 0
GivesRow b row =
    (out : List ℕ) (call : Vault → End) (l m : ℕ)
    → (result_of (lent_end b call out) l ≡ plain_result row out l)
    × (header_result_of (lent_end b call out) l m ≡ header_result row out l m)
    × (placed_result_of (lent_end b call out) l m ≡ placed_result row out l m)

-- Each of the three calls on names that is lent them does so, the name writer with both its buffers.
abbrev pub NamesGiveRow : List ℕ → ℕ → Type 0
NamesGiveRow b row =
    (out stored full : List ℕ) (call : Vault → End) (writer : Vault → NameEnd) (l m : ℕ)
    → (placed_result_of (lent_name_end b call out) l m ≡ placed_result row out l m)
    × (name_result_of (lent_writer_end b writer stored full) l m ≡ name_result row stored full l m)

-- Bytes that are not 66 give row 1 at every call. 66 whose last is below 36 or above 220 give row 18 at the three calls on names, whatever the last but one. 66 whose
-- last but one is neither 1 nor 2 give row 17 at every other call, whatever the last, and at those three where the last is from 36 to 220.
abbrev pub NoVault : Type 0
NoVault =
    (b : List ℕ)
    → ((length b ≡ 66 → ⊥) → GivesRow b 1 × NamesGiveRow b 1)
    × (length b ≡ 66 → (ThresholdFits (get_or b 65 0) → ⊥) → NamesGiveRow b 18)
    × (length b ≡ 66 → (KnownCombo (get_or b 64 0) → ⊥) → GivesRow b 17 × (ThresholdFits (get_or b 65 0) → NamesGiveRow b 17))

-- The path of a directory goes by the keys of a lent vault, whatever its last byte.
abbrev pub PathOfAnyThreshold : Type 0
PathOfAnyThreshold =
    (enc mac id out : List ℕ) (t : ℕ) → KeySizes enc mac
    → (path_end (enc ++ mac ++ 1 ∷ t ∷ []) id out ≡ calls.dir_path enc mac id out)
    × (path_end (enc ++ mac ++ 2 ∷ t ∷ []) id out ≡ calls.dir_path enc mac id out)

-- What a label opens to makes a vault: with two keys of 32 bytes, with which as the raw key it opens, and with room, the making succeeds; and what was made, lent to any call, is
-- the record of these keys, of the combo that the label names and of its threshold.
abbrev pub LabelMakesVault : Type 1
LabelMakesVault =
    (A : Type 0) (enc mac l out : List ℕ) (n t : ℕ) (call : Vault → A) (refusal : ℕ → A) → KeySizes enc mac → 66 ≤ length out → open_label (enc ++ mac) l ≡ done (n ∷ t ∷ []) →
    let made = store_vault enc mac n t out in
    (made.outcome ≡ done (66 ∷ []))
    × (lent (take 66 made.buffer) call refusal ≡ call (vault_with enc mac (combo_of n) t))
    × (lent_name (take 66 made.buffer) call refusal ≡ call (vault_with enc mac (combo_of n) t))
