-- The making: what it leaves, and the rules that it goes by.
-- Assumes nothing.
use Prim.Native.Nat.{ℕ, ◌+◌, ◌≤◌, ◌<◌}
use mathlib.Core.Path.{◌≡◌, refl, sym, ap, ◌∙◌}
use mathlib.Core.Bool.{true, false, not}
use mathlib.Core.List.{List, [], ◌∷◌, ◌++◌}
use native.Mathlib.Omega.{arith}
use borrow.Author.Tests.{lt-ltb, le-ltb}
use lib.Dec.{lit≤}
use lib.ListN.{length, length-append}
use lib.Seq.{length-take-le}
use Rattle.octets.specs.Bytes.{placed, filled}
use Rattle.octets.specs.Rows.{EndsExactly, done, refused, ended}
use Rattle.octets.proofs.Lists.{at_front, front_filled, placed-placed}
use Rattle.octets.proofs.Tests.{not_fails, ltb_fails}
use Rattle.octets.proofs.Rows.{Matches, none_ends, ends_by, ends_exactly}
use Rattle.threshold.specs.Threshold.{threshold_right}
use Rattle.threshold.proofs.Exactly.{threshold_exactly}
use Rattle.frame.specs.Frame.{master_keys_right}
use Rattle.frame.specs.Rules.{KeySizes}
use Rattle.frame.proofs.KeySizes.{keys_exactly}
use Rattle.vault_bytes.specs.VaultBytes.{combo_known, joined, store_vault_rows, store_vault}
use Rattle.vault_bytes.specs.Statements.{store_vault_rules, StoresExactly}
use Rattle.vault_bytes.proofs.Combos.{known_exactly}

pub joined-size : (enc mac : List ℕ) (n t : ℕ) → KeySizes enc mac → length (joined enc mac n t) ≡ 66
joined-size enc mac n t k = omega (arith, length-append (enc ++ mac) (n ∷ t ∷ []), length-append enc mac, k)

-- The keys and the two numbers, placed one behind the other, stand at the front of the buffer.
pub placed-joined : (enc mac out : List ℕ) (n t : ℕ) → KeySizes enc mac → 66 ≤ length out
    → placed (n ∷ t ∷ []) 64 (placed mac 32 (placed enc 0 out)) ≡ filled (joined enc mac n t) 66 out
placed-joined enc mac out n t k r =
    let e : 0 + length enc ≡ 32 = omega (arith, k) in
    let m : 0 + length (enc ++ mac) ≡ 64 = omega (arith, length-append enc mac, k) in
    let z : 0 ≤ length out = omega arith in
    let s = joined enc mac n t in
    let l = joined-size enc mac n t k in
    ap (λ (i : ℕ). placed (n ∷ t ∷ []) 64 (placed mac i (placed enc 0 out))) (sym e)
    ∙ ap (placed (n ∷ t ∷ []) 64) (placed-placed enc mac out 0 z)
    ∙ ap (λ (i : ℕ). placed (n ∷ t ∷ []) i (placed (enc ++ mac) 0 out)) (sym m)
    ∙ placed-placed (enc ++ mac) (n ∷ t ∷ []) out 0 z
    ∙ sym (at_front s out 66 l)
    ∙ front_filled s out 66 s (l ∙ sym (length-take-le 66 out r)) refl

matches : (enc mac : List ℕ) (n t room : ℕ) → Matches (store_vault_rows enc mac n t room) (store_vault_rules enc mac n t room)
unfolding store_vault_rows
matches enc mac n t room = (
  refl,
  not_fails (keys_exactly enc mac),
  (refl, ltb_fails room 66, (refl, not_fails (known_exactly n), (refl, not_fails (threshold_exactly t), tt))),
)

pub stores_exactly : StoresExactly
unfolding store_vault_rows store_vault
stores_exactly enc mac out n t = (
  ends_by (store_vault_rows enc mac n t (length out)) (store_vault_rules enc mac n t (length out)) (matches enc mac n t (length out)) refl (66 ∷ []) (filled (joined enc mac n t) 66 out) out,
  refl,
)

-- Where no row applies.
pub stored : (enc mac out : List ℕ) (n t : ℕ) → KeySizes enc mac → 66 ≤ length out → combo_known n ≡ true → threshold_right t ≡ true
    → store_vault enc mac n t out ≡ ended (done (66 ∷ [])) (filled (joined enc mac n t) 66 out)
unfolding store_vault_rows store_vault
stored enc mac out n t k r e f =
    none_ends (store_vault_rows enc mac n t (length out)) (66 ∷ []) (filled (joined enc mac n t) 66 out) out
    (ap not ((keys_exactly enc mac).1 k), (le-ltb (length out) 66 r, (ap not e, (ap not f, tt))))

-- ---- for code: the end by each row

module _ (enc mac out : List ℕ) (n t : ℕ) where
  ends : EndsExactly (store_vault_rows enc mac n t (length out)) (66 ∷ []) (filled (joined enc mac n t) 66 out) out (store_vault enc mac n t out)
  unfolding store_vault_rows store_vault
  ends = ends_exactly (store_vault_rows enc mac n t (length out)) refl (66 ∷ []) (filled (joined enc mac n t) 66 out) out

  pub store_1 : master_keys_right enc mac ≡ false → ended (refused 1) out ≡ store_vault enc mac n t out
  unfolding store_vault_rows
  store_1 e = sym ((ends.0 0 (lit≤ tt)).1 (ap not e))

  module _ (keyed : master_keys_right enc mac ≡ true) where
    pub store_7 : length out < 66 → ended (refused 7) out ≡ store_vault enc mac n t out
    unfolding store_vault_rows
    store_7 few = sym ((ends.0 1 (lit≤ tt)).1 (ap not keyed, lt-ltb _ _ few))

    module _ (room : 66 ≤ length out) where
      pub store_17 : combo_known n ≡ false → ended (refused 17) out ≡ store_vault enc mac n t out
      unfolding store_vault_rows
      store_17 e = sym ((ends.0 2 (lit≤ tt)).1 (ap not keyed, (le-ltb _ _ room, ap not e)))

      pub store_18 : combo_known n ≡ true → threshold_right t ≡ false → ended (refused 18) out ≡ store_vault enc mac n t out
      unfolding store_vault_rows
      store_18 e f = sym ((ends.0 3 (lit≤ tt)).1 (ap not keyed, (le-ltb _ _ room, (ap not e, ap not f))))
