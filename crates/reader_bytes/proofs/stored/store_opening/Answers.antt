-- `store_opening`: the keys of a success, or the reader of no bytes.
-- Assumes nothing.
use Prim.Native.Nat.{ℕ}
use mathlib.Core.Path.{◌≡◌, refl, sym, ap, ◌∙◌}
use mathlib.Core.Logic.{⊎_elim}
use mathlib.Core.List.{List}
use Rattle.octets.specs.Rows.{Outcome, refused, refused_at, number}
use Rattle.std.specs.Prelude.{Result}
use Rattle.answer.specs.declared.Refusal.{Refusal}
use Rattle.answer.specs.Meaning.{row, meaning}
use Rattle.file_reader.specs.declared.keys.ReaderKeys.{ReaderKeys}
use Rattle.file_reader.proofs.Refusals.{refusal}
use Rattle.reader_bytes.specs.ReaderBytes.{no_bytes_in, keys_after}
use Rattle.reader_bytes.proofs.stored.store_opening.Goals as goal

-- a refusal leaves the reader of no bytes
none_after : (x : Refusal) (k : ReaderKeys) (out : List ℕ) → keys_after (row x) k out ≡ no_bytes_in out
none_after x k out =
    ⊎_elim (λ (e : row x ≡ refused (number (row x))). ap (λ (o : Outcome). keys_after o k out) e)
    (λ (e : (i : ℕ) × (row x ≡ refused_at (number (row x)) i)). ap (λ (o : Outcome). keys_after o k out) e.1) (refusal x)

pub returns-in-Ok : goal.returns-in-Ok
returns-in-Ok c =
    let x = c.args in
    (refl, c.store_keys.ensures ∙ sym (ap (λ (a : Result ℕ Refusal). keys_after (meaning a) x.opening.keys x.out.now) c.in-Ok.is))

pub returns-in-Err : goal.returns-in-Err
returns-in-Err c =
    let x = c.args in (
      refl,
      c.store_none.ensures
          ∙ sym (ap (λ (a : Result ℕ Refusal). keys_after (meaning a) x.opening.keys x.out.now) c.in-Err.is ∙ none_after c.in-Err.field-0 x.opening.keys x.out.now),
    )
