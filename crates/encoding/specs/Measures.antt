-- What the check of a base64url text answers.
-- Assumes nothing.
use Rattle.std.specs.Prelude.{ℕ, Bool, true, false, List, length, Result, Ok, Err}
use Rattle.encoding.specs.Base64url.{accepted, decoded}
use Rattle.encoding.specs.Broken.{broken_at}
use Rattle.encoding.specs.declared.base64url.BrokenAt.{BrokenAt}

abbrev pub broken : ℕ → BrokenAt
broken place = record { 0 = place }

abbrev pub answer : Bool → ℕ → ℕ → Result ℕ BrokenAt
answer true n place = Ok n
answer false n place = Err (broken place)

-- An accepted text is measured by the number of bytes that it stands for, and a broken one is refused with its place.
unfoldable pub measure_of : Bool → List ℕ → Result ℕ BrokenAt
measure_of p t = answer (accepted p t) (length (decoded p t)) (broken_at p t)
