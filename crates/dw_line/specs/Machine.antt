-- The machine that runs a line program, from any of its states on (DWARF 5, section 6.2.2).
use Rattle.std.specs.Prelude.{◌≡◌, ◌<◌, ◌≤◌, ◌+◌, ℕ, Bool, if◌then◌else◌}
use Rattle.std.specs.Prelude.{List, [], ◌∷◌, length, drop, Option, Some, None, Result, Ok, Err}
use Rattle.dw_model.specs.Results.{◌>>=◌}
use Rattle.dw_model.specs.Reading.{Place, start, items, Spans}
use Rattle.dw_model.specs.Faults.{Bad}
use Rattle.dw_model.specs.Answers.{Tells}
use Rattle.dw_model.specs.LineHeader.{LineHeader}
use Rattle.dw_model.specs.Instruction.{next_instruction}
use Rattle.dw_model.specs.Matrix.{Row}
use Rattle.dw_model.specs.Registers.{Registers, initial, row, run}
use Rattle.dw_line.specs.declared.fault.LineFault.{LineFault}
use Rattle.dw_line.specs.declared.machine.Appended.{Appended}
use Rattle.dw_line.specs.declared.registers.Registers.{Registers as CodeRegisters}
use Rattle.dw_line.specs.Fault.{line_fault}
use Rattle.dw_line.specs.Registers.{registers_shown}

-- its registers, and the place in the program of the next instruction
pub record State : Type 0 where
  pub registers : Registers
  pub place : Place

abbrev pub state_at : CodeRegisters → Place → State
state_at registers place = record { registers = registers_shown registers; place = place }

-- it is a place of the program
abbrev pub IsIn : LineHeader → Place → Type 0
IsIn header place =
    (record { at = place.at; left = drop place.at header.program } ≡ place) × (place.at ≤ length header.program)

-- before the first instruction of a program
abbrev pub beginning : LineHeader → State
beginning header = record { registers = initial; place = start header.program }

-- the rows that it appends from there on, up to the program's end
unfoldable pub rows_on : LineHeader → State → Result (List Row) Bad
rows_on header state =
    items (λ p. p.left) (next_instruction header) state.place >>= λ found. Ok (run header state.registers found.0)

-- a row, and then others
abbrev pub row_before : Row → Result (List Row) Bad → Result (List Row) Bad
row_before row others = others >>= λ rows. Ok (row ∷ rows)

-- the registers after a row: after one that ends its sequence they begin anew
abbrev pub registers_behind : Registers → Bool → Registers
registers_behind registers ends = if ends then initial else registers

abbrev pub appended_row : Appended → Row
appended_row appended = row (registers_shown appended.registers) appended.ends

-- after a row that is appended, at a place
abbrev pub state_behind : Appended → Place → State
state_behind next place =
    record { registers = registers_behind (registers_shown next.registers) next.ends; place = place }

-- how many bytes an instruction takes at least that appends a row, one that ends its sequence or
-- another
abbrev pub least_bytes : Bool → ℕ
least_bytes ends = if ends then 3 else 1

-- The machine appends this row on its way from a state to a place, and no other.
pub record IsNext (header : LineHeader) (old : State) (next : Appended) (new : Place) : Type 0 where
  pub rows : rows_on header old ≡ row_before (appended_row next) (rows_on header (state_behind next new))
  pub spans : Spans (λ piece. 0 < length piece) old.place new
  pub size : old.place.at + least_bytes next.ends ≤ new.at

-- what a call returns that runs the machine to its next row
abbrev pub RunsToNext : LineHeader → State → Result (Option Appended) LineFault → Place → Type 0
RunsToNext header old (Ok None) new = rows_on header old ≡ Ok []
RunsToNext header old (Ok (Some next)) new = IsNext header old next new
RunsToNext header old (Err e) new = Tells (line_fault e) (rows_on header old)
