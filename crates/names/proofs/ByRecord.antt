-- The calls on names go by the record's keys.
-- Assumes nothing.
use mathlib.Core.Path.{refl}
use Rattle.names.specs.ByRecord.{NamesOfAnyCombo}

pub names_of_any_combo : NamesOfAnyCombo
names_of_any_combo enc mac id s t out k threshold = (refl, refl, refl, refl)
