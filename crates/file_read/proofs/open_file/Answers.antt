-- `open_file`: opening is reading the range of the whole cleartext.
-- Assumes nothing.
use Prim.Native.Nat.{ℕ}
use mathlib.Core.Path.{sym, ap, ◌∙◌}
use lib.ListN.{length}
use Rattle.frame.specs.Layout.{clear_length}
use Rattle.frame.specs.Frame.{Codec, read_range}
use Rattle.frame.proofs.Success.{opening_is_reading}
use Rattle.vault.specs.Vault.{codec_of}
use Rattle.vault.proofs.Combos.{codec_by_lem}
use Rattle.file_read.proofs.open_file.Goals as goal

pub returns : goal.returns
returns c =
    let x = c.args in
    let v = x.v in
    let C = codec_of v in
    let z = ap (λ (D : Codec). clear_length D.sizes (length x.file.now)) (codec_by_lem v.combo v.enc v.mac) in
    c.read_range.ensures
    ∙ ap (λ (n : ℕ). read_range C x.file.now 0 n x.out.now) (c.clear_length-n.ensures ∙ z)
    ∙ sym (opening_is_reading C x.file.now x.out.now)
