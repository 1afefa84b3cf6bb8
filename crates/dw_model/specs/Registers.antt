-- The registers of the line number machine, run one instruction after the other (DWARF 5, section
-- 6.2.2). The matrix is defined by sums; a law says that these registers, whose numbers run modulo
-- 2 ^ 64, give the same.
use Rattle.std.specs.Prelude.{ℕ, ◌+◌, ◌%◌, ◌^◌, Bool, List, [], ◌∷◌, if◌then◌else◌}
use Rattle.dw_model.specs.LineHeader.{LineHeader}
use Rattle.dw_model.specs.Instruction.{Instruction, set_address, set_file, set_column}
use Rattle.dw_model.specs.Matrix.{Row, address_advance, line_advance, residue, is_end, appends}

-- those that are kept
pub record Registers : Type 0 where
  pub address : ℕ
  pub file : ℕ
  pub line : ℕ
  pub column : ℕ

-- at the beginning of a sequence (table 6.4)
abbrev pub initial : Registers
initial = record { address = 0; file = 1; line = 1; column = 0 }

abbrev pub next_address : LineHeader → Instruction → ℕ → ℕ
next_address header (set_address n) address = n % 2 ^ 64
next_address header instruction address = (address + address_advance header instruction) % 2 ^ 64

abbrev pub next_line : LineHeader → Instruction → ℕ → ℕ
next_line header instruction line = (line + residue (line_advance header instruction)) % 2 ^ 64

abbrev pub next_file : Instruction → ℕ → ℕ
next_file (set_file n) file = n
next_file _ file = file

abbrev pub next_column : Instruction → ℕ → ℕ
next_column (set_column n) column = n
next_column _ column = column

-- the registers when the instruction is done
abbrev pub step : LineHeader → Instruction → Registers → Registers
step header instruction r = record {
  address = next_address header instruction r.address;
  file = next_file instruction r.file;
  line = next_line header instruction r.line;
  column = next_column instruction r.column;
}

-- the row that is appended then
abbrev pub row : Registers → Bool → Row
row r ends = record { address = r.address; file = r.file; line = r.line; column = r.column; ends = ends }

-- the rows that the machine appends
unfoldable pub run : LineHeader → Registers → List Instruction → List Row
run header r [] = []
run header r (instruction ∷ instructions) =
    let next = step header instruction r in
    let others = run header (if is_end instruction then initial else next) instructions in
    if appends instruction then row next (is_end instruction) ∷ others else others
