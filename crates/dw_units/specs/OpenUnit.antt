-- A unit of an open file, as the definitions have it.
use Rattle.dw_model.specs.Section.{Sections}
use Rattle.dw_model.specs.Unit.{DwarfUnit}
use Rattle.dw_units.specs.declared.open_unit.OpenUnit.{OpenUnit}
use Rattle.dw_units.specs.UnitAt.{unit_at}

-- the sections of the file, and which of its units it is
abbrev pub sections_of : OpenUnit → Sections
sections_of here = here.units.now

abbrev pub unit_of : OpenUnit → DwarfUnit
unit_of here = unit_at here.units.now here.index
