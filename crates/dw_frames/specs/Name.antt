-- Entries to which references lead, as the code finds them.
use Rattle.std.specs.Prelude.{◌≡◌, ℕ, Option, option_and_then}
use Rattle.dw_model.specs.Form.{Value}
use Rattle.dw_model.specs.Section.{Sections}
use Rattle.dw_model.specs.Unit.{DwarfUnit}
use Rattle.dw_model.specs.Name as model
use Rattle.dw_model.specs.Name.{target, entry_of}
use Rattle.dw_units.specs.OpenUnit.{unit_of}
use Rattle.dw_frames.specs.declared.name.UnitEntry.{UnitEntry}

-- an entry with its unit
abbrev pub unit_entry : UnitEntry → model.UnitEntry
unit_entry here = record { unit = unit_of here.unit; entry = here.entry }

-- the offset leads where the reference leads
abbrev pub IsTarget : Sections → DwarfUnit → Value → Option ℕ → Type 0
IsTarget sections unit value offset =
    option_and_then (entry_of sections) offset ≡ option_and_then (entry_of sections) (target unit value)
