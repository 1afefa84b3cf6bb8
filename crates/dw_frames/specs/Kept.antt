-- How many ranges of lists are kept of a unit.
use Rattle.std.specs.Prelude.{ℕ, ◌-◌, ◌/◌}
use Rattle.dw_model.specs.Unit.{DwarfUnit}

-- at most one for each four bytes of the unit
abbrev pub most_listed : DwarfUnit → ℕ
most_listed unit = (unit.end - unit.offset) / 4
