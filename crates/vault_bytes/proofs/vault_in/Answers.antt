-- `vault_in`: each part of the record from its place.
-- Assumes nothing.
use Prim.Native.Nat.{ℕ}
use mathlib.Core.Path.{ap, ap₂, ◌∙◌}
use mathlib.Core.List.{List}
use native.Mathlib.Omega.{arith}
use lib.ListN.{take, drop, get_or}
use Rattle.vault.specs.declared.record.Combo.{Combo}
use Rattle.vault.specs.Vault.{vault_with}
use Rattle.vault_bytes.specs.VaultBytes.{vault_in}
use Rattle.vault_bytes.proofs.Lending.{key-sizes}
use Rattle.vault_bytes.proofs.vault_in.Goals as goal

pub slice_bounds-copy_from_slice-end-2 : goal.slice_bounds-copy_from_slice-end-2
slice_bounds-copy_from_slice-end-2 c = omega (arith, key-sizes c.args.bytes.now c.requires)

pub copy_from_slice-requires : goal.copy_from_slice-requires
copy_from_slice-requires c = omega (arith, key-sizes c.args.bytes.now c.requires)

pub returns : goal.returns
unfolding vault_in
returns c =
    let b = c.args.bytes.now in
    let t = get_or b 65 0 in
    ap₂ (λ (x y : List ℕ). vault_with x y c.combo_of-combo.result t) c.copy_from_slice.ensures.after c.copy_from_slice-2.ensures.after
    ∙ ap (λ (k : Combo). vault_with (take 32 b) (take 32 (drop 32 b)) k t) c.combo_of-combo.ensures
