-- The frames at an address, from what is told of the functions at it.
use Rattle.std.specs.Prelude.{ℕ, List, [], ◌∷◌, Option, None, Result, Ok, option_and_then}
use Rattle.dw_model.specs.Results.{◌>>=◌, with_code}
use Rattle.dw_model.specs.Section.{Sections}
use Rattle.dw_model.specs.Unit.{DwarfUnit}
use Rattle.dw_model.specs.Answer.{Location, Frame, Lines, Code, Answer, line_fault, as_answer}
use Rattle.dw_model.specs.Answer.{file_path, lines, location_at, row_at, row_location}
use Rattle.dw_frames.specs.declared.function.Call.{Call}
use Rattle.dw_frames.specs.Told.{Told}

-- where an inner function was called
abbrev pub called_at : Option Lines → Call → Location
called_at lines call = location_at (option_and_then (file_path lines) call.file) call.line call.column

-- the frames of functions, innermost first, from a location on
abbrev pub frames_on : Option Lines → Location → List Told → List Frame
frames_on lines here [] = []
frames_on lines here (told ∷ outer) =
    record { name = told.name; location = here } ∷ frames_on lines (called_at lines told.call) outer

-- without functions there is one frame without a name
abbrev pub frames_told : Option Lines → Location → List Told → List Frame
frames_told lines here [] = record { name = None; location = here } ∷ []
frames_told lines here (told ∷ outer) = frames_on lines here (told ∷ outer)

-- what an address means in a unit whose functions at it are these
abbrev pub unit_told : Sections → DwarfUnit → List Told → ℕ → Result (List Frame) Code
unit_told sections unit functions a =
    with_code (λ _. line_fault) (lines sections unit) >>= λ table.
    Ok (frames_told table (row_location table (row_at table a)) functions)

abbrev pub answer_told : Sections → DwarfUnit → List Told → ℕ → Answer
answer_told sections unit functions a = as_answer unit.offset (unit_told sections unit functions a)
