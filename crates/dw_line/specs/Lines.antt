-- A line table that is read.
use Rattle.std.specs.Prelude.{◌≡◌, ℕ, List, [], Option, Result, Ok, Err, MatchOption}
use Rattle.std.specs.Result.{result_unwrap_or}
use Rattle.dw_model.specs.Results.{◌>>=◌}
use Rattle.dw_model.specs.Faults.{Bad}
use Rattle.dw_model.specs.Text.{Tables, Bases}
use Rattle.dw_model.specs.LineHeader.{LineHeader, line_header}
use Rattle.dw_model.specs.Instruction.{instructions}
use Rattle.dw_model.specs.Matrix.{Row, matrix}
use Rattle.dw_model.specs.Answer.{Lines}
use Rattle.dw_line.specs.declared.fault.LineFault.{LineFault}
use Rattle.dw_line.specs.Fault.{line_fault}

-- a line table, with where it begins: a section and an offset there
pub record Table : Type 0 where
  pub section : List ℕ
  pub offset : ℕ
  pub header : LineHeader
  pub rows : List Row
  pub comp_dir : Option (List ℕ)

-- the same without where it begins
abbrev pub lines_shown : Table → Lines
lines_shown table = record { header = table.header; rows = table.rows; comp_dir = table.comp_dir }

-- the table at an offset of .debug_line, of a unit that was compiled in the directory
unfoldable pub lines_of : Tables → Bases → List ℕ → Option (List ℕ) → ℕ → Result Table Bad
lines_of tables bases section comp_dir offset = do
  header ← line_header tables bases section offset
  program ← instructions header
  Ok (record { section = section; offset = offset; header = header; rows = matrix header program; comp_dir = comp_dir })

-- whichever unit names the table, it can't be read, unless the error is that it is out of memory
abbrev pub TellsEach : List ℕ → ℕ → LineFault → Type 0
TellsEach section offset e =
    (tables : Tables) (bases : Bases) (comp_dir : Option (List ℕ))
    → MatchOption (line_fault e) (Unit {0}) (λ fault. lines_of tables bases section comp_dir offset ≡ Err fault)

-- the rows of a header's program, where it can be read
abbrev pub matrix_of : LineHeader → List Row
matrix_of header = matrix header (result_unwrap_or (instructions header) [])
