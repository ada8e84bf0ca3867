-- What a refusal leaves, and what bytes that are no vault give.
-- Assumes nothing.
use Prim.Native.Nat.{ℕ}
use mathlib.Core.Path.{◌≡◌, refl, ap}
use mathlib.Core.List.{List, [], ◌∷◌, ◌++◌}
use Rattle.octets.specs.Rows.{refused, End, ended}
use Rattle.name_spec.specs.Calls.{NameEnd, name_ended}
use Rattle.names.specs.ByRecord.{dir_path}
use Rattle.vault.specs.declared.record.Vault.{Vault}
use Rattle.vault_bytes.specs.VaultBytes.{lent, lent_name}
use Rattle.vault_bytes.proofs.Lending.{lent_exactly, lent-name_exactly}
use Rattle.skrapnefja.specs.Results.{result_of, header_result_of, placed_result_of, name_result_of, label_result_of}
use Rattle.skrapnefja.specs.Statements.{PathOfAnyThreshold, SuccessWrites, RefusalLeaves, ResultsTell, GivesRow, NamesGiveRow, NoVault}

pub refusal_leaves : RefusalLeaves
refusal_leaves row i before = (refl, refl, refl, refl, refl, refl, refl, refl, refl, refl)

pub success_writes : SuccessWrites
success_writes n m before = (refl, refl, refl, refl, refl, refl, λ lengths. refl)

pub results_tell : ResultsTell
unfolding result_of header_result_of placed_result_of name_result_of label_result_of
results_tell out full bytes row i n m l a b = (refl, refl, refl, refl, refl, refl, refl, refl, refl, refl, refl, refl, refl)

gives_row : (b : List ℕ) (row : ℕ) → ((A : Type 0) (call : Vault → A) (refusal : ℕ → A) → lent b call refusal ≡ refusal row) → GivesRow b row
unfolding result_of header_result_of placed_result_of
gives_row b row e out call l m =
    let o = e End call (λ r. ended (refused r) out) in (
      ap (λ (x : End). result_of x l) o,
      ap (λ (x : End). header_result_of x l m) o,
      ap (λ (x : End). placed_result_of x l m) o,
    )

names_give_row : (b : List ℕ) (row : ℕ) → ((A : Type 0) (call : Vault → A) (refusal : ℕ → A) → lent_name b call refusal ≡ refusal row) → NamesGiveRow b row
unfolding placed_result_of name_result_of
names_give_row b row e out stored full call writer l m = (
  ap (λ (x : End). placed_result_of x l m) (e End call (λ r. ended (refused r) out)),
  ap (λ (x : NameEnd). name_result_of x l m) (e NameEnd writer (λ r. name_ended (refused r) stored full)),
)

pub no_vault : NoVault
no_vault b = (
  λ f. (gives_row b 1 (λ A call refusal. (lent_exactly A b call refusal).0 f), names_give_row b 1 (λ A call refusal. (lent-name_exactly A b call refusal).0 f)),
  λ s f. names_give_row b 18 (λ A call refusal. (lent-name_exactly A b call refusal).1 s f),
  λ s u. (
    gives_row b 17 (λ A call refusal. (lent_exactly A b call refusal).1 s u),
    λ f. names_give_row b 17 (λ A call refusal. (lent-name_exactly A b call refusal).2 s f u),
  ),
)

pub path_of_any_threshold : PathOfAnyThreshold
path_of_any_threshold enc mac id out t k =
    let gcm = ((lent_exactly End (enc ++ mac ++ 1 ∷ t ∷ []) (λ v. dir_path v id out) (λ row. ended (refused row) out)).2 enc mac t k).0 refl in
    let ctrmac = ((lent_exactly End (enc ++ mac ++ 2 ∷ t ∷ []) (λ v. dir_path v id out) (λ row. ended (refused row) out)).2 enc mac t k).1 refl in
    (gcm, ctrmac)
