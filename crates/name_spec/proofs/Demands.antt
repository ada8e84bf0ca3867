-- The demands on names and directory paths.
-- Assumes nothing.
use Rattle.name_spec.specs.Statements.{NameDemandOne, NameDemandTwo}
use Rattle.name_spec.proofs.Texts.{text_lengths}
use Rattle.name_spec.proofs.Rules.{name_rows_exactly, names_ascend, outside_threshold}
use Rattle.name_spec.proofs.TextPlaces.{text-places}
use Rattle.name_spec.proofs.Openings.{path_writes_exactly, name_writes_exactly, name-written-opens, name-opens_exactly, long_name-opens_exactly, not_text_exactly, moved_name_exactly, one_name}
use Rattle.name_spec.proofs.Longest.{longest_names, room_for_any}

pub name_demand_one : NameDemandOne
name_demand_one threshold enc mac id = (name_rows_exactly threshold enc mac id, names_ascend threshold enc mac id, outside_threshold threshold enc mac id, text-places threshold enc mac id)

pub name_demand_two : NameDemandTwo
name_demand_two = (
  path_writes_exactly,
  λ threshold enc mac id. (
    name_writes_exactly threshold enc mac id,
    name-written-opens threshold enc mac id,
    name-opens_exactly threshold enc mac id,
    long_name-opens_exactly threshold enc mac id,
    not_text_exactly threshold enc mac id,
    moved_name_exactly threshold enc mac id,
    room_for_any threshold enc mac id,
  ),
  one_name,
  text_lengths,
  longest_names,
)
