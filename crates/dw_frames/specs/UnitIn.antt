-- A unit of a file, as contracts see it.
use Rattle.std.specs.Prelude.{ℕ}
use Rattle.dw_model.specs.Section.{Sections}
use Rattle.dw_model.specs.Unit.{DwarfUnit}
use Rattle.dw_units.specs.declared.open_unit.OpenUnit.{OpenUnit}
use Rattle.dw_units.specs.OpenUnit.{sections_of, unit_of}

-- the index of the unit, the sections of the file, and what its header says
pub record UnitIn : Type 0 where
  pub index : ℕ
  pub sections : Sections
  pub unit : DwarfUnit

abbrev pub unit_in : OpenUnit → UnitIn
unit_in here = record { index = here.index; sections = sections_of here; unit = unit_of here }
