-- Rows that several calls on names share.
-- Assumes nothing.
use Rattle.std.specs.Prelude.{ℕ, List, ◌≡◌, true, false, ◌⊎◌, Result, Ok, Err}
use Rattle.threshold.specs.Threshold.{threshold_right}
use Rattle.name_spec.specs.Names.{id_right}
use Rattle.answer.specs.declared.Refusal.{Refusal}
use Rattle.answer.specs.declared.Refusal.TheVariants.{Threshold, DirectoryId, Text}
use Rattle.encoding.specs.declared.base64url.BrokenAt.{BrokenAt}

-- The threshold is outside its limits (18); it is inside, and the bytes are no directory ID (2).
abbrev pub Denied : ℕ → List ℕ → Refusal → Type 0
Denied threshold id r = ((threshold_right threshold ≡ false) × (r ≡ Threshold)) ⊎ ((threshold_right threshold ≡ true) × (id_right id ≡ false) × (r ≡ DirectoryId))

-- What the test of a text's form answers, with row 5 and the place where the text is broken.
abbrev pub text_row : Result ℕ BrokenAt → Result ℕ Refusal
text_row (Ok n) = Ok n
text_row (Err b) = Err (Text b.0)
