-- The examples, worked out from the definitions.
-- Assumes nothing.
use mathlib.Core.Path.{refl}
use Rattle.octets.specs.BigEndian.{be}
use Rattle.utf8.specs.Utf8.{utf8_1, utf8_2, utf8_3, utf8_4, well_formed, encode, encoded}
use Rattle.utf8.specs.ProperText.{lacks, proper_text}
use Rattle.utf8.specs.Examples.{Examples}

-- All equations of a list hold by themselves.
pub examples : Examples
unfolding be utf8_1 utf8_2 utf8_3 utf8_4 well_formed encode encoded lacks proper_text
examples = (
  (refl, refl, refl, refl),
  (refl, (refl, (refl, (refl, (refl, (refl, (refl, (refl, (refl, (refl, (refl, (refl, (refl, tt))))))))))))),
  (refl, (refl, (refl, tt))),
  (refl, (refl, (refl, (refl, (refl, (refl, (refl, (refl, (refl, (refl, (refl, (refl, (refl, (refl, (refl, (refl, (refl, (refl, (refl, tt))))))))))))))))))),
  (refl, (refl, (refl, (refl, (refl, (refl, (refl, (refl, tt)))))))),
)
