-- The lending: the row of the bytes, or the record that they stand for.
-- Assumes nothing.
use Prim.Native.Nat.{ℕ, ◌≤◌}
use mathlib.Core.Path.{◌≡◌, refl, sym, ap, ap₂, ◌∙◌}
use mathlib.Core.Bool.{Bool, true, false}
use mathlib.Core.List.{List, [], ◌∷◌, ◌++◌, append_assoc}
use native.Mathlib.Omega.{arith}
use borrow.Author.Tests.{eqb-true, eqb-false, eq-eqb, ne_eqb}
use lib.Dec.{eqb}
use lib.ListN.{length, take, drop, get_or, length-append, length-drop}
use lib.Seq.{length-take-le, drop-cons, split_at, take-add, take_at, drop_at, get_or_at, take_all}
use Rattle.octets.specs.Rows.{End}
use Rattle.octets.proofs.Bytes.{below_take, below_drop}
use Rattle.octets.proofs.Lists.{drop_all}
use Rattle.threshold.specs.Threshold.{threshold_right, ThresholdFits}
use Rattle.threshold.proofs.Exactly.{threshold_exactly}
use Rattle.frame.specs.Rules.{KeySizes}
use Rattle.vault.specs.declared.record.Vault.{Vault}
use Rattle.vault.specs.Vault.{vault_with}
use Rattle.vault_bytes.specs.VaultBytes.{combo_known, combo_of, joined, store_vault, lent_row, lent_name_row, vault_in, lent_by, lent, lent_name}
use Rattle.vault_bytes.specs.Statements.{LentExactly, LentNameExactly, LentKeys, MadeIsLent}
use Rattle.vault_bytes.proofs.Combos.{untrue, unknown}
use Rattle.vault_bytes.proofs.Storing.{joined-size, stored}

-- The parts of 66 bytes.
pub key-sizes : (b : List ℕ) → length b ≡ 66 → KeySizes (take 32 b) (take 32 (drop 32 b))
key-sizes b l = (length-take-le 32 b (omega arith), length-take-le 32 (drop 32 b) (omega (arith, length-drop 32 b)))

parts : (b : List ℕ) → length b ≡ 66 → take 32 b ++ take 32 (drop 32 b) ++ get_or b 64 0 ∷ get_or b 65 0 ∷ [] ≡ b
parts b l =
    let e = get_or b 64 0 in
    let f = get_or b 65 0 in
    ap (λ (s : List ℕ). s ++ e ∷ f ∷ []) (sym (take-add 32 32 b))
    ∙ ap (λ (s : List ℕ). take 64 b ++ e ∷ s) (sym (drop-cons b 65 0 (omega arith) ∙ ap (λ (s : List ℕ). f ∷ s) (drop_all 66 b (omega arith))))
    ∙ sym (split_at b 64 0 (omega arith))

-- The numbers and the record of two keys and two numbers, joined.
module _ (enc mac : List ℕ) (n t : ℕ) (k : KeySizes enc mac) where
  number_in : get_or (joined enc mac n t) 64 0 ≡ n
  number_in = get_or_at (enc ++ mac) n (t ∷ []) 0 64 (omega (arith, length-append enc mac, k))

  threshold_in_lem : get_or (joined enc mac n t) 65 0 ≡ t
  threshold_in_lem =
      ap (λ (s : List ℕ). get_or s 65 0) (sym (append_assoc (enc ++ mac) (n ∷ []) (t ∷ [])))
      ∙ get_or_at (enc ++ mac ++ n ∷ []) t [] 0 65 (omega (arith, length-append (enc ++ mac) (n ∷ []), length-append enc mac, k))

  record_in : vault_in (joined enc mac n t) ≡ vault_with enc mac (combo_of n) t
  unfolding vault_in
  record_in =
      let b = joined enc mac n t in
      let q = append_assoc enc mac (n ∷ t ∷ []) in
      let e = ap (take 32) q ∙ take_at enc (mac ++ n ∷ t ∷ []) 32 k.0 in
      let m = ap (λ (s : List ℕ). take 32 (drop 32 s)) q ∙ ap (take 32) (drop_at enc (mac ++ n ∷ t ∷ []) 32 k.0) ∙ take_at mac (n ∷ t ∷ []) 32 k.1 in
      ap₂ (λ (x y : List ℕ). vault_with x y (combo_of (get_or b 64 0)) (get_or b 65 0)) e m
      ∙ ap₂ (λ (i j : ℕ). vault_with enc mac (combo_of i) j) number_in threshold_in_lem

  sized_in : (b : List ℕ) → joined enc mac n t ≡ b → length b ≡ 66
  sized_in b q = ap length (sym q) ∙ joined-size enc mac n t k

  known_in : (b : List ℕ) → joined enc mac n t ≡ b → combo_known n ≡ true → combo_known (get_or b 64 0) ≡ true
  known_in b q e = ap (λ (s : List ℕ). combo_known (get_or s 64 0)) (sym q) ∙ ap combo_known number_in ∙ e

  limits_in : (b : List ℕ) → joined enc mac n t ≡ b → ThresholdFits t → threshold_right (get_or b 65 0) ≡ true
  limits_in b q f = ap (λ (s : List ℕ). threshold_right (get_or s 65 0)) (sym q) ∙ ap threshold_right threshold_in_lem ∙ (threshold_exactly t).1 f

-- ---- the row of the bytes

module _ (b : List ℕ) where
  pub no_size : (length b ≡ 66 → ⊥) → (lent_row b ≡ 1) × (lent_name_row b ≡ 1)
  unfolding lent_row lent_name_row
  no_size f = let e = ne_eqb (length b) 66 f in (rw e, rw e)

  module _ (l : length b ≡ 66) where
    pub no_combo : combo_known (get_or b 64 0) ≡ false → lent_row b ≡ 17
    unfolding lent_row
    no_combo e = rw (eq-eqb (length b) 66 l, e)

    pub no_row : combo_known (get_or b 64 0) ≡ true → lent_row b ≡ 0
    unfolding lent_row
    no_row e = rw (eq-eqb (length b) 66 l, e)

    pub no_threshold : threshold_right (get_or b 65 0) ≡ false → lent_name_row b ≡ 18
    unfolding lent_name_row
    no_threshold f = rw (eq-eqb (length b) 66 l, f)

    -- At the calls on names the row is the same where the threshold fits.
    pub same_row : threshold_right (get_or b 65 0) ≡ true → lent_name_row b ≡ lent_row b
    unfolding lent_name_row
    same_row f = rw (eq-eqb (length b) 66 l, f)

module _ {A : Type 0} (b : List ℕ) (call : Vault → A) (refusal : ℕ → A) where
  by_row : {row : ℕ} (r : ℕ) → row ≡ r → eqb r 0 ≡ false → lent_by row b call refusal ≡ refusal r
  unfolding lent_by
  by_row r e z = ap (λ (i : ℕ). lent_by i b call refusal) e ∙ rw z

  by_record : {row : ℕ} → row ≡ 0 → lent_by row b call refusal ≡ call (vault_in b)
  unfolding lent_by
  by_record e = ap (λ (i : ℕ). lent_by i b call refusal) e

  -- Two keys and two numbers.
  module _ (enc mac : List ℕ) (n t : ℕ) (k : KeySizes enc mac) (e : combo_known n ≡ true) (q : joined enc mac n t ≡ b) where
    row_of_joined : lent_row b ≡ 0
    row_of_joined = no_row b (sized_in enc mac n t k b q) (known_in enc mac n t k b q e)

    under_joined : {row : ℕ} → row ≡ 0 → lent_by row b call refusal ≡ call (vault_with enc mac (combo_of n) t)
    under_joined z = by_record z ∙ ap call (ap vault_in (sym q) ∙ record_in enc mac n t k)

    lent-joined : lent b call refusal ≡ call (vault_with enc mac (combo_of n) t)
    lent-joined = under_joined row_of_joined

    name-joined : ThresholdFits t → lent_name b call refusal ≡ call (vault_with enc mac (combo_of n) t)
    name-joined f = under_joined (same_row b (sized_in enc mac n t k b q) (limits_in enc mac n t k b q f) ∙ row_of_joined)

-- ---- what the statements say

pub lent_exactly : LentExactly
unfolding combo_known combo_of
lent_exactly A b call refusal = (
  λ f. by_row b call refusal 1 (no_size b f).0 refl,
  λ l f. by_row b call refusal 17 (no_combo b l (unknown (get_or b 64 0) f)) refl,
  λ enc mac t k. (lent-joined b call refusal enc mac 1 t k refl, lent-joined b call refusal enc mac 2 t k refl),
  λ l g. (take 32 b, take 32 (drop 32 b), key-sizes b l, parts b l),
)

pub lent-name_exactly : LentNameExactly
unfolding combo_known combo_of
lent-name_exactly A b call refusal = (
  λ f. by_row b call refusal 1 (no_size b f).1 refl,
  λ l f. by_row b call refusal 18 (no_threshold b l (untrue (threshold_right (get_or b 65 0)) (threshold_exactly (get_or b 65 0)) f)) refl,
  λ l f u. by_row b call refusal 17 (same_row b l ((threshold_exactly (get_or b 65 0)).1 f) ∙ no_combo b l (unknown (get_or b 64 0) u)) refl,
  λ enc mac t k f. (λ q. name-joined b call refusal enc mac 1 t k refl q f, λ q. name-joined b call refusal enc mac 2 t k refl q f),
)

pub lent-keys : LentKeys
unfolding vault_in
lent-keys b bytes l =
    let k = key-sizes b l in
    record {
      enc-size = k.0;
      mac-size = k.1;
      enc-bytes = below_take 32 bytes;
      mac-bytes = below_take 32 (below_drop 32 bytes);
    }

-- What was made stands at the front of the buffer.
made : (enc mac out : List ℕ) (n t : ℕ) → KeySizes enc mac → ThresholdFits t → 66 ≤ length out → combo_known n ≡ true → joined enc mac n t ≡ take 66 (store_vault enc mac n t out).buffer
made enc mac out n t k f r e =
    let s = joined enc mac n t in
    let l = joined-size enc mac n t k in
    let u : length (take 66 s) ≡ 66 = length-take-le 66 s (omega (arith, l)) in
    sym
    (ap (λ (x : End). take 66 x.buffer) (stored enc mac out n t k r e ((threshold_exactly t).1 f))
    ∙ take_at (take 66 s) (drop 66 out) 66 u
    ∙ take_all 66 s (omega (arith, l)))

pub made_is_lent : MadeIsLent
unfolding combo_known combo_of
made_is_lent A enc mac out t call refusal k f r =
    let gcm = take 66 (store_vault enc mac 1 t out).buffer in
    let ctrmac = take 66 (store_vault enc mac 2 t out).buffer in
    let a = made enc mac out 1 t k f r refl in
    let b = made enc mac out 2 t k f r refl in (
      lent-joined gcm call refusal enc mac 1 t k refl a,
      lent-joined ctrmac call refusal enc mac 2 t k refl b,
      name-joined gcm call refusal enc mac 1 t k refl a f,
      name-joined ctrmac call refusal enc mac 2 t k refl b f,
    )

-- ---- for a call under its record

-- Bytes that give no row are 66.
pub lent-size : (b : List ℕ) → lent_row b ≡ 0 → length b ≡ 66
lent-size b z = by_test (eqb (length b) 66) refl
  where
    by_test : (t : Bool) → eqb (length b) 66 ≡ t → length b ≡ 66
    by_test true q = eqb-true (length b) 66 q
    by_test false q = absurd (let e = (no_size b (eqb-false (length b) 66 q)).0 in omega (arith, e, z))

-- What the call comes to under it.
pub lent_under : {A : Type 0} (b : List ℕ) (call : Vault → A) (refusal : ℕ → A) {r row : ℕ} {v : Vault} → r ≡ row → r ≡ 0 → v ≡ vault_in b → call v ≡ lent_by row b call refusal
lent_under b call refusal e z q = ap call q ∙ sym (by_record b call refusal (sym e ∙ z))
