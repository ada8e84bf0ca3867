-- What a reader holds of its file goes by the answer of its making.
-- Assumes nothing.
use mathlib.Core.Path.{◌≡◌, refl}
use mathlib.Core.List.{List, [], ◌∷◌}
use Prim.Native.Nat.{ℕ}
use lib.ListN.{length}
use Rattle.octets.specs.Rows.{Outcome, done, refused, refused_at, answer}
use Rattle.frame.specs.Layout.{clear_length}
use Rattle.reader_spec.specs.Reader.{Reader, reader_by, reader_of, making_rows, open_reader}
use Rattle.vault.specs.declared.record.Vault.{Vault}
use Rattle.vault.specs.Vault.{codec_of}
use Rattle.file_reader.specs.Kept.{open_kept, file_by}

by_answer : (o : Outcome) (r : Reader) → (reader_by o r).file ≡ file_by o r.file
by_answer (done lengths) r = refl
by_answer (refused row) r = refl
by_answer (refused_at row at) r = refl

pub file_by_lem : (v : Vault) (f : List ℕ) → (open_kept v f).file ≡ file_by (open_kept v f).outcome f
unfolding open_kept open_reader reader_of
file_by_lem v f =
    let C = codec_of v in
    by_answer (answer (making_rows C f) (done (clear_length C.sizes (length f) ∷ []))) (reader_of C f)
