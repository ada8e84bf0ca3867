-- Neighbouring reads add up, and reads beside a mended range stay, for C callers.
-- Assumes nothing.
use mathlib.Core.Path.{◌≡◌, refl, sym, ap, ◌∙◌, subst}
use mathlib.Core.Bool.{Bool, true, false, cond}
use mathlib.Core.List.{List, []}
use Prim.Native.Nat.{ℕ, ◌≤◌}
use native.Mathlib.Omega.{arith}
use borrow.Author.Tests.{eqb-true, eqb-false}
use lib.Dec.{eqb, leb}
use lib.ListN.{length, take, get_or}
use Rattle.octets.specs.Bytes.{Bytes}
use Rattle.octets.specs.Rows.{done, refused, End, ended, Succeeded}
use Rattle.frame.specs.Layout.{Inside}
use Rattle.frame.specs.Frame.{read_range}
use Rattle.mend_spec.specs.Mend.{mend_file}
use Rattle.mend_spec.specs.Statements.{Mending}
use Rattle.vault.specs.declared.record.Vault.{Vault}
use Rattle.vault.specs.Vault.{sizes_of, codec_of, Keys}
use Rattle.vault_bytes.specs.VaultBytes.{combo_known, lent_row, vault_in, lent_by, lent}
use Rattle.vault_bytes.specs.Statements.{KnownCombo}
use Rattle.vault_bytes.proofs.Combos.{known_exactly}
use Rattle.vault_bytes.proofs.Lending.{lent-keys, lent-size, lent_under}
use Rattle.file_reader.specs.Kept.{Kept, read_kept}
use Rattle.file_reader.proofs.Combos.{none_held}
use Rattle.file_reader.proofs.Demands.{holds}
use Rattle.reader_bytes.specs.ReaderBytes.{keys_in, file_in, store_reader_rows, store_reader, store_lent, read_lent}
use Rattle.reader_bytes.proofs.Made.{store_rows, made_reads}
use Rattle.neighbours.specs.Neighbours.{NeighboursAddUp, Stay}
use Rattle.neighbours.specs.Lent.{range_lent, mend_lent, LentAddUp, LentStay}
use Rattle.neighbours.proofs.Answers.{no_success}
use Rattle.neighbours.proofs.AddingUp.{alike, refusing, by_making}
use Rattle.neighbours.proofs.Demands.{ranges_sized, reads_add_up, same_length, same-header, passes_before, stay, kept_stay}

-- ---- adding up

ranges : (b f : List ℕ) → NeighboursAddUp (range_lent b f) (Inside (sizes_of (vault_in b).combo) (length f))
unfolding lent_by
ranges b f = go (eqb (lent_row b) 0) (lent_row b)
  where
    go : (t : Bool) (row : ℕ) → NeighboursAddUp (λ from count out. cond t (read_range (codec_of (vault_in b)) f from count out) (ended (refused row) out)) (Inside (sizes_of (vault_in b).combo) (length f))
    go true row = ranges_sized (vault_in b) f
    go false row = refusing row (Inside (sizes_of (vault_in b).combo) (length f))

through : (b f : List ℕ) → NeighboursAddUp (read_lent f b) (Inside (sizes_of (keys_in b).combo) (length f))
unfolding read_lent file_in
through b f = go (eqb (length b) 65) (leb (get_or b 64 0) 2) (eqb (get_or b 64 0) 0)
  where
    Within : ℕ → ℕ → Type 0
    Within = Inside (sizes_of (keys_in b).combo) (length f)

    go : (sized known none : Bool)
        → NeighboursAddUp (λ from count out. cond sized (cond known (read_kept (keys_in b) (cond none [] f) from count out) (ended (refused 17) out)) (ended (refused 1) out)) (Inside (sizes_of (keys_in b).combo) (length f))
    go true true true = alike Within (read_kept (keys_in b) []) (λ from count out. ended (refused 4) out) (none_held (keys_in b)) (refusing 4 Within)
    go true true false = reads_add_up.1 (keys_in b) f
    go true false none = refusing 17 Within
    go false known none = refusing 1 Within

pub lent_add_up : LentAddUp
lent_add_up = (
  ranges,
  through,
  λ b f keys l k room.
      by_making (Inside (sizes_of (vault_in b).combo) (length f)) _ (range_lent b f) (store_lent b f keys).outcome
      (λ s from count out. (made_reads b f keys l k room f from count out).0 s refl)
      (λ n from count out. (made_reads b f keys l k room f from count out).1 n)
      (ranges b f),
)

-- ---- beside a mend

-- bytes that no call but those on names refuses as a vault
module _ (b : List ℕ) (e : lent_row b ≡ 0) where
  under : {A : Type 0} (call : Vault → A) (refusal : ℕ → A) → lent b call refusal ≡ call (vault_in b)
  under call refusal = sym (lent_under b call refusal refl e refl)

  known : KnownCombo (get_or b 64 0)
  unfolding lent_row
  known = (known_exactly (get_or b 64 0)).0 (go (eqb (length b) 66) (combo_known (get_or b 64 0)) e)
    where
      go : (t u : Bool) → ◌≡◌ {A = ℕ} (cond t (cond u 0 17) 1) 0 → u ≡ true
      go true true q = refl
      go true false q = absurd (eqb-false 17 0 refl q)
      go false u q = absurd (eqb-false 1 0 refl q)

-- a vault is lent to a mend that succeeds
taken : (b f : List ℕ) (from : ℕ) (new nonces : List ℕ) → Succeeded (mend_lent b f from new nonces) → lent_row b ≡ 0
unfolding lent_by
taken b f from new nonces s = go (eqb (lent_row b) 0) refl s.1
  where
    go : (t : Bool) → eqb (lent_row b) 0 ≡ t → (cond t (mend_file (codec_of (vault_in b)) f from new nonces) (ended (refused (lent_row b)) f)).outcome ≡ done s.0 → lent_row b ≡ 0
    go true e q = eqb-true (lent_row b) 0 e
    go false e q = absurd (no_success (refused (lent_row b)) tt s.0 q)

module _ (b f : List ℕ) (from : ℕ) (new nonces : List ℕ) (bytes-b : Bytes b) (bytes-f : Bytes f) (bytes-new : Bytes new) (bytes-nonces : Bytes nonces)
    (s : Succeeded (mend_lent b f from new nonces)) where
  abbrev v : Vault
  v = vault_in b

  abbrev g : List ℕ
  g = (mend_file (codec_of v) f from new nonces).buffer

  row : lent_row b ≡ 0
  row = taken b f from new nonces s

  mends_under : mend_lent b f from new nonces ≡ mend_file (codec_of v) f from new nonces
  mends_under = under b row (λ u. mend_file (codec_of u) f from new nonces) (λ r. ended (refused r) f)

  keyed : Keys v
  keyed = lent-keys b bytes-b (lent-size b row)

  mending : Mending (codec_of v) f from new nonces
  mending = record { file-bytes = bytes-f; new_bytes = bytes-new; nonces-bytes = bytes-nonces; success = subst Succeeded mends_under s }

  ranges_stay : Stay (range_lent b f) (range_lent b g) from (length new)
  ranges_stay at count out none =
      under b row (λ u. read_range (codec_of u) g at count out) (λ r. ended (refused r) out)
      ∙ stay v keyed f from new nonces mending at count out none
      ∙ sym (under b row (λ u. read_range (codec_of u) f at count out) (λ r. ended (refused r) out))

  stored : (keys : List ℕ) → store_reader v g keys ≡ store_reader v f keys
  unfolding store_reader store_reader_rows
  stored keys = rw (same_length v f from new nonces keyed mending, same-header v f from new nonces keyed mending, (kept_stay v keyed f from new nonces mending).2)

  stores_stay : (keys : List ℕ) → store_lent b g keys ≡ store_lent b f keys
  stores_stay keys =
      under b row (λ u. store_reader u g keys) (λ r. ended (refused r) keys)
      ∙ stored keys
      ∙ sym (under b row (λ u. store_reader u f keys) (λ r. ended (refused r) keys))

  was_made : (keys : List ℕ) → 65 ≤ length keys → Succeeded (store_lent b f keys)
  was_made keys room =
      subst Succeeded (sym (under b row (λ u. store_reader u f keys) (λ r. ended (refused r) keys)))
      (_, (store_rows v f keys).3 room ∙ ap (λ (m : Kept). m.outcome) (holds v f (passes_before v f from new nonces keyed mending)))

  through_stay : (keys again : List ℕ) → 65 ≤ length keys → 65 ≤ length again
      → Stay (read_lent f (take 65 (store_lent b f keys).buffer)) (read_lent g (take 65 (store_lent b g again).buffer)) from (length new)
  through_stay keys again r₁ r₂ at count out none =
      (made_reads b g again (lent-size b row) (known b row) r₂ g at count out).0 (subst Succeeded (sym (stores_stay again)) (was_made again r₂)) refl
      ∙ ranges_stay at count out none
      ∙ sym ((made_reads b f keys (lent-size b row) (known b row) r₁ f at count out).0 (was_made keys r₁) refl)

pub lent_stay : LentStay
lent_stay b f from new nonces bb bf bw bn s =
    let e = ap (λ (x : End). x.buffer) (mends_under b f from new nonces bb bf bw bn s) in (
      λ at count out none. ap (λ (x : List ℕ). range_lent b x at count out) e ∙ ranges_stay b f from new nonces bb bf bw bn s at count out none,
      λ keys. ap (λ (x : List ℕ). store_lent b x keys) e ∙ stores_stay b f from new nonces bb bf bw bn s keys,
      λ keys again r₁ r₂ at count out none.
          ap (λ (x : List ℕ). read_lent x (take 65 (store_lent b x again).buffer) at count out) e ∙ through_stay b f from new nonces bb bf bw bn s keys again (omega (arith, r₁)) (omega (arith, r₂)) at count out none,
    )
