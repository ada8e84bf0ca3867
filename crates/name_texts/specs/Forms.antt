-- What the test of a full name's text form answers.
-- Assumes nothing.
use Rattle.std.specs.Prelude.{ℕ, ◌&&◌, List, leb, length, Result}
use Rattle.encoding.specs.declared.base64url.BrokenAt.{BrokenAt}
use Rattle.encoding.specs.Measures.{answer}
use Rattle.name_spec.specs.Names.{text_right, name_length}
use Rattle.name_spec.specs.Places.{text_broken_at}

-- A text in the text form, with at most so many characters, has the length of its name, and a broken one its place.
unfoldable pub form_of : ℕ → List ℕ → Result ℕ BrokenAt
form_of most t = answer (text_right t && leb (length t) most) (name_length t) (text_broken_at most t)
