-- A unit of a file that is open, as the definitions have it.
use Rattle.std.specs.Prelude.{◌≡◌, ◌≤◌, ◌<◌, ℕ, Option}
use Rattle.dw_model.specs.Section.{Sections, sections}
use Rattle.dw_model.specs.Unit.{DwarfUnit}
use Rattle.dw_model.specs.Answer.{unit_of}
use Rattle.dw_units.specs.UnitAt.{unit_at}
use Rattle.dw_symbols.specs.declared.image_unit.ImageUnit.{ImageUnit}

-- the sections of the file, and which of its units it is
abbrev pub sections_in : ImageUnit → Sections
sections_in here = sections here.image.now

abbrev pub unit_in : ImageUnit → DwarfUnit
unit_in here = unit_at (sections_in here) here.index

-- the unit answers each address from one on and before another; or no unit does
abbrev pub IsUnitOf : Sections → Option DwarfUnit → (low high : ℕ) → Type 0
IsUnitOf sections unit low high = (a : ℕ) → low ≤ a → a < high → unit ≡ unit_of sections a
