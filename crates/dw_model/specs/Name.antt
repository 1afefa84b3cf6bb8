-- Names of functions, across units (DWARF 5, sections 2.15, 3.3.8 and 7.5.5).
use Rattle.std.specs.Prelude.{ℕ, zero, suc, ◌+◌, ◌&&◌, List, Option, Some, None, find, option_and_then, nat_le, nat_lt}
use Rattle.std.specs.Option.{option_or}
use Rattle.std.specs.Result.{result_ok}
use Rattle.dw_model.specs.declared.dwarf.TheConstants.{DW_AT_name, DW_AT_linkage_name, DW_AT_abstract_origin}
use Rattle.dw_model.specs.declared.dwarf.TheConstants.{DW_AT_specification}
use Rattle.dw_model.specs.Options.{◌>>=◌}
use Rattle.dw_model.specs.Form.{Value}
use Rattle.dw_model.specs.Form as values
use Rattle.dw_model.specs.Entry.{Entry, attribute}
use Rattle.dw_model.specs.Text.{text}
use Rattle.dw_model.specs.Section.{Sections}
use Rattle.dw_model.specs.Unit.{DwarfUnit, units}
use Rattle.dw_model.specs.Root.{entry, bases}

-- an entry with the unit in which it is
pub record UnitEntry : Type 0 where
  pub unit : DwarfUnit
  pub entry : Entry

-- the unit in whose piece an offset of .debug_info lies
abbrev pub holding : List DwarfUnit → ℕ → Option DwarfUnit
holding units offset = find (λ unit. nat_le unit.offset offset && nat_lt offset unit.end) units

-- the offset in .debug_info to which a reference leads: that of a unit counts from the unit's first
-- byte
abbrev pub target : DwarfUnit → Value → Option ℕ
target unit (values.unit_ref n) = Some (unit.offset + n)
target unit (values.section_ref n) = Some n
target unit _ = None

-- the entry that is at an offset of .debug_info, in whichever unit; none for a null entry, an entry
-- that can't be read, a header or a skipped unit
unfoldable pub entry_of : Sections → ℕ → Option UnitEntry
entry_of sections offset = do
  unit ← holding (units sections.info) offset
  found ← result_ok (entry sections unit offset)
  here ← found.0
  Some (record { unit = unit; entry = here })

-- the reference by which an entry says what it is an instance of, or else which declaration it
-- completes
abbrev pub reference : Entry → Option Value
reference here = option_or (attribute DW_AT_abstract_origin here) (attribute DW_AT_specification here)

unfoldable pub referred : Sections → UnitEntry → Option UnitEntry
referred sections here = do
  value ← reference here.entry
  offset ← target here.unit value
  entry_of sections offset

abbrev pub attribute_text : Sections → UnitEntry → ℕ → Option (List ℕ)
attribute_text sections here name =
    option_and_then (text sections.tables (bases sections here.unit)) (attribute name here.entry)

-- the name that an entry has itself: the one for the linker, else the one of the source
abbrev pub own_name : Sections → UnitEntry → Option (List ℕ)
own_name sections here =
    option_or (attribute_text sections here DW_AT_linkage_name) (attribute_text sections here DW_AT_name)

-- at most so many references are followed
unfoldable pub name_within : Sections → ℕ → UnitEntry → Option (List ℕ)
name_within sections zero here = own_name sections here
name_within sections (suc more) here =
    option_or (own_name sections here) (option_and_then (name_within sections more) (referred sections here))

-- The name of an entry: the first own name among itself and the entries to which at most 16
-- references lead (own).
abbrev pub name : Sections → UnitEntry → Option (List ℕ)
name sections here = name_within sections 16 here
