-- What is told of a function.
use Rattle.std.specs.Prelude.{ℕ, List, Option, None, option_map}
use Rattle.dw_model.specs.Entry.{Entry}
use Rattle.dw_model.specs.Section.{Sections}
use Rattle.dw_model.specs.Unit.{DwarfUnit}
use Rattle.dw_model.specs.Name.{name}
use Rattle.dw_frames.specs.declared.function.Call.{Call}
use Rattle.dw_frames.specs.declared.function.Described.{Described}
use Rattle.dw_frames.specs.Call.{call_of, no_call}

-- its name, and where it was called that was inlined
pub record Told : Type 0 where
  pub name : Option (List ℕ)
  pub call : Call

-- what the definitions tell of an entry of a unit
abbrev pub told_of : Sections → DwarfUnit → Entry → Told
told_of sections unit entry =
    record { name = name sections (record { unit = unit; entry = entry }); call = call_of entry }

-- of no function
abbrev pub nothing : Told
nothing = record { name = None; call = no_call }

abbrev pub described_shown : Described → Told
described_shown described = record { name = option_map (λ name. name.now) described.name; call = described.call }
