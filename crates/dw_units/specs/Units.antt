-- What the units that were read are seen as.
use Rattle.std.specs.Prelude.{◌≡◌, Ok, map}
use Rattle.std.specs.List.{AllByRecursion}
use Rattle.dw_model.specs.Section.{Sections}
use Rattle.dw_model.specs.Unit.{cut}
use Rattle.dw_units.specs.declared.units.Units.TheInside.{Inside}
use Rattle.dw_units.specs.Sections.{sections_shown}
use Rattle.dw_units.specs.Unit.{unit_shown, IsOpened}

-- the sections of the file
abbrev pub sections_in : Inside → Sections
sections_in units = sections_shown units.sections

-- The units are the cut of .debug_info, each opened.
pub record AreUnits (units : Inside) : Type 0 where
  pub section : units.abbrevs.section ≡ units.sections.abbrevs.now
  pub cut : cut units.sections.info.now ≡ Ok (map unit_shown units.units.items)
  pub opened : AllByRecursion (IsOpened (sections_in units) units.abbrevs) units.units.items
