-- `held`: all of the file, or its first no bytes.
-- Assumes nothing.
use Prim.Native.Nat.{ℕ}
use mathlib.Core.Path.{◌≡◌, sym, ap, ◌∙◌}
use mathlib.Core.Logic.{⊎_elim}
use mathlib.Core.List.{List, []}
use Rattle.octets.specs.Rows.{Outcome, refused, refused_at, number}
use Rattle.std.specs.Prelude.{Result}
use Rattle.answer.specs.declared.Refusal.{Refusal}
use Rattle.answer.specs.Meaning.{row, meaning}
use Rattle.file_reader.specs.Kept.{file_by}
use Rattle.file_reader.proofs.Refusals.{refusal}
use Rattle.file_reader.proofs.opening.held.Goals as goal

-- a refusal holds no byte
nothing : (x : Refusal) (f : List ℕ) → file_by (row x) f ≡ []
nothing x f =
    ⊎_elim (λ (e : row x ≡ refused (number (row x))). ap (λ (o : Outcome). file_by o f) e)
    (λ (e : (i : ℕ) × (row x ≡ refused_at (number (row x)) i)). ap (λ (o : Outcome). file_by o f) e.1) (refusal x)

pub returns-in-Err : goal.returns-in-Err
returns-in-Err c = sym (ap (λ (a : Result ℕ Refusal). file_by (meaning a) c.args.file.now) c.in-Err.is ∙ nothing c.in-Err.field-0 c.args.file.now)
