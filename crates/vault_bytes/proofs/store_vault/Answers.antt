-- `store_vault`: the tests in the rows' order, and the keys, the combo's number and the threshold at the front of the buffer.
-- Assumes nothing.
use mathlib.Core.Path.{sym, ap, ◌∙◌}
use mathlib.Core.List.{[], ◌∷◌}
use native.Mathlib.Omega.{arith}
use Rattle.octets.specs.Bytes.{placed}
use Rattle.octets.specs.Rows.{done, ended}
use Rattle.threshold.proofs.Exactly.{threshold_exactly}
use Rattle.frame.specs.Frame.{key_size}
use Rattle.frame.specs.Rules.{KeySizes}
use Rattle.frame.proofs.KeySizes.{master_sizes}
use Rattle.vault_bytes.specs.VaultBytes.{vault_size, combo_place}
use Rattle.vault_bytes.proofs.Combos.{small}
use Rattle.vault_bytes.proofs.Storing.{placed-joined, stored, store_1, store_7, store_17, store_18}
use Rattle.vault_bytes.proofs.store_vault.Goals as goal

pub returns-then-not-master_keys_right : goal.returns-then-not-master_keys_right
returns-then-not-master_keys_right c = store_1 _ _ _ _ _ (sym c.master_keys_right.ensures ∙ c.if-not-master_keys_right.true)

pub returns-then-out-room : goal.returns-then-out-room
returns-then-out-room c = store_7 _ _ _ _ _ (sym c.master_keys_right.ensures ∙ c.if-not-master_keys_right.false) (omega (arith, c.if-out-room.true))

pub returns-then-not-known : goal.returns-then-not-known
returns-then-not-known c =
    store_17 _ _ _ _ _ (sym c.master_keys_right.ensures ∙ c.if-not-master_keys_right.false) c.if-out-room.false (sym c.known.ensures ∙ c.if-not-known.true)

pub returns-then-not-threshold_right : goal.returns-then-not-threshold_right
returns-then-not-threshold_right c =
    store_18 _ _ _ _ _ (sym c.master_keys_right.ensures ∙ c.if-not-master_keys_right.false) c.if-out-room.false
    (sym c.known.ensures ∙ c.if-not-known.false) (sym c.threshold_right.ensures ∙ c.if-not-threshold_right.true)

pub copy_at-requires : goal.copy_at-requires
copy_at-requires c = omega (arith, master_sizes c.args.enc.now c.args.mac.now (sym c.master_keys_right.ensures ∙ c.if-not-master_keys_right.false))

pub copy_at-requires-2 : goal.copy_at-requires-2
copy_at-requires-2 c = omega (arith, master_sizes c.args.enc.now c.args.mac.now (sym c.master_keys_right.ensures ∙ c.if-not-master_keys_right.false), c.copy_at.auto.dst)

pub overflow_cast-numbers : goal.overflow_cast-numbers
overflow_cast-numbers c = omega (arith, small _ (sym c.known.ensures ∙ c.if-not-known.false))

pub overflow_cast-numbers-2 : goal.overflow_cast-numbers-2
overflow_cast-numbers-2 c = omega (arith, (threshold_exactly _).0 (sym c.threshold_right.ensures ∙ c.if-not-threshold_right.false))

pub returns : goal.returns
returns c =
    let x = c.args in
    let s : KeySizes x.enc.now x.mac.now = master_sizes _ _ (sym c.master_keys_right.ensures ∙ c.if-not-master_keys_right.false) in
    let r = c.if-out-room.false in
    ap (ended (done (vault_size ∷ [])))
    (c.copy_at-3.ensures ∙ ap (placed (x.combo ∷ x.threshold ∷ []) combo_place) (c.copy_at-2.ensures ∙ ap (placed x.mac.now key_size) c.copy_at.ensures)
    ∙ placed-joined x.enc.now x.mac.now x.out.now x.combo x.threshold s r)
    ∙ sym (stored x.enc.now x.mac.now x.out.now x.combo x.threshold s r (sym c.known.ensures ∙ c.if-not-known.false) (sym c.threshold_right.ensures ∙ c.if-not-threshold_right.false))
