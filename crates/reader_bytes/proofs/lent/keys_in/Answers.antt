-- `keys_in`: the two keys and the combo, each from its place.
-- Assumes nothing.
use Prim.Native.Nat.{ℕ}
use mathlib.Core.Path.{sym, ap, ap₂, ◌∙◌}
use mathlib.Core.List.{List}
use native.Mathlib.Omega.{arith}
use lib.ListN.{take, drop}
use lib.Seq.{length-take-le}
use Rattle.file_reader.specs.Kept.{keys_with}
use Rattle.vault_bytes.specs.VaultBytes.{combo_of}
use Rattle.reader_bytes.specs.ReaderBytes.{keys_in}
use Rattle.reader_bytes.proofs.lent.keys_in.Goals as goal

pub slice_bounds-copy_from_slice-end-2 : goal.slice_bounds-copy_from_slice-end-2
slice_bounds-copy_from_slice-end-2 c = sym (length-take-le 32 c.args.bytes.now (omega (arith, c.requires)))

pub returns : goal.returns
unfolding keys_in
returns c =
    let b = c.args.bytes.now in
    let e = c.copy_from_slice.ensures.after in
    let m = c.copy_from_slice-2.ensures.after in
    ap₂ (λ (x y : List ℕ). keys_with x y c.combo_of.result) e m ∙ ap (keys_with (take 32 b) (take 32 (drop 32 b))) (c.combo_of.ensures ∙ ap combo_of c.from.ensures)
