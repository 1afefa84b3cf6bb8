-- What an address means.
use Rattle.std.specs.Prelude.{ℕ, ◌&&◌, List, [], ◌∷◌, Option, Some, None, Result, Ok, Err, find, option_and_then, ◌==◌}
use Rattle.std.specs.Prelude.{if◌then◌else◌}
use Rattle.std.specs.Option.{option_map_or}
use Rattle.std.specs.Result.{result_unwrap_or}
use Rattle.dw_model.specs.declared.dwarf.TheConstants.{DW_AT_stmt_list, DW_AT_comp_dir, DW_AT_call_file}
use Rattle.dw_model.specs.declared.dwarf.TheConstants.{DW_AT_call_line, DW_AT_call_column}
use Rattle.dw_model.specs.Results.{◌>>=◌, with_code}
use Rattle.dw_model.specs.Entry.{Entry, attribute, as_section_offset, number_of}
use Rattle.dw_model.specs.Section.{Sections, sections}
use Rattle.dw_model.specs.Unit.{DwarfUnit, units}
use Rattle.dw_model.specs.Root.{root, bases, answers}
use Rattle.dw_model.specs.Text.{text}
use Rattle.dw_model.specs.Ranges.{covers}
use Rattle.dw_model.specs.Refusal.{unit_ranges}
use Rattle.dw_model.specs.LineHeader.{LineHeader, line_header}
use Rattle.dw_model.specs.Instruction.{instructions}
use Rattle.dw_model.specs.Matrix.{Row, matrix, row_of}
use Rattle.dw_model.specs.Path.{path}
use Rattle.dw_model.specs.Tree.{Node, tree, chain}
use Rattle.dw_model.specs.Name.{name}
use Rattle.dw_model.specs.Faults.{TreeFault, Bad}

-- where in the source an address comes from, as far as that is known
pub record Location : Type 0 where
  pub path : Option (List ℕ)
  pub line : Option ℕ
  pub column : Option ℕ

pub record Frame : Type 0 where
  pub name : Option (List ℕ)
  pub location : Location

-- Why a unit gives no answer: the first fault of its tree, or its line table is bad.
pub data Code : Type 0 where
  tree_fault : TreeFault → Code
  line_fault : Code

-- addresses from `begin` on and below `end`, which have one location
pub record Piece : Type 0 where
  pub begin : ℕ
  pub end : ℕ
  pub location : Location

-- Of an address: no unit covers it; or its unit, by offset, has a fault; or the frames at it,
-- innermost first. Of a span of addresses: such a fault, or the pieces of it that have locations.
pub data Answer : Type 0 where
  not_covered : Answer
  fault : (unit : ℕ) → Code → Answer
  found : (unit : ℕ) → List Frame → Answer
  located : List Piece → Answer

-- The unit of an address: of those that answer, the first whose ranges hold it.
unfoldable pub unit_of : Sections → ℕ → Option DwarfUnit
unit_of sections a =
    find (λ unit. answers unit.kind && covers a (result_unwrap_or (unit_ranges sections unit) [])) (units sections.info)

-- ---- lines

-- a line table: its header, its rows, and the directory in which the unit was compiled
pub record Lines : Type 0 where
  pub header : LineHeader
  pub rows : List Row
  pub comp_dir : Option (List ℕ)

unfoldable pub lines_at : Sections → DwarfUnit → Entry → ℕ → Result Lines Bad
lines_at sections unit root offset = do
  header ← line_header sections.tables (bases sections unit) sections.line offset
  program ← instructions header
  Ok (record {
    header = header;
    rows = matrix header program;
    comp_dir = option_and_then (text sections.tables (bases sections unit)) (attribute DW_AT_comp_dir root);
  })

-- the line table that a unit's first entry names, where it names one
unfoldable pub lines : Sections → DwarfUnit → Result (Option Lines) Bad
lines sections unit =
    option_map_or (λ first. option_map_or (λ offset. lines_at sections unit first offset >>= λ table. Ok (Some table))
    (option_and_then as_section_offset (attribute DW_AT_stmt_list first)) (Ok None)) (root sections unit) (Ok None)

abbrev pub file_path : Option Lines → ℕ → Option (List ℕ)
file_path None n = None
file_path (Some table) n = path table.header table.comp_dir n

abbrev pub row_at : Option Lines → ℕ → Option Row
row_at None a = None
row_at (Some table) a = row_of table.rows a

-- Line 0 is no line, and without a line there is no column (own).
abbrev pub location_at : Option (List ℕ) → Option ℕ → Option ℕ → Location
location_at path None column = record { path = path; line = None; column = None }
location_at path (Some line) column =
    if line == 0 then record { path = path; line = None; column = None }
    else record { path = path; line = Some line; column = column }

-- the location of the address itself
abbrev pub row_location : Option Lines → Option Row → Location
row_location table None = record { path = None; line = None; column = None }
row_location table (Some row) = location_at (file_path table row.file) (Some row.line) (Some row.column)

-- the location of a call that was inlined, as its entry says
abbrev pub call_location : Option Lines → Entry → Location
call_location table entry =
    location_at (option_and_then (file_path table) (number_of DW_AT_call_file entry))
    (number_of DW_AT_call_line entry) (number_of DW_AT_call_column entry)

-- ---- frames

-- the frames of functions, innermost first; each but the first is where the one inside it was
-- called
unfoldable pub frames_from : (Entry → Option (List ℕ)) → Option Lines → Location → List Node → List Frame
frames_from name table location [] = []
frames_from name table location (node ∷ outer) =
    record { name = name node.entry; location = location }
    ∷ frames_from name table (call_location table node.entry) outer

-- where no function holds the address, there is one frame without a name
unfoldable pub frames : (Entry → Option (List ℕ)) → Option Lines → Location → List Node → List Frame
frames name table location [] = record { name = None; location = location } ∷ []
frames name table location (node ∷ outer) = frames_from name table location (node ∷ outer)

abbrev pub unit_answer : Sections → DwarfUnit → ℕ → Result (List Frame) Code
unit_answer sections unit a =
    with_code tree_fault (tree sections unit) >>= λ nodes.
    with_code (λ _. line_fault) (lines sections unit) >>= λ table.
    Ok (frames (λ entry. name sections (record { unit = unit; entry = entry })) table
    (row_location table (row_at table a)) (chain sections unit nodes a))

abbrev pub unit_location : Sections → DwarfUnit → ℕ → Result (List Frame) Code
unit_location sections unit a =
    with_code (λ _. line_fault) (lines sections unit) >>= λ table.
    Ok (record { name = None; location = row_location table (row_at table a) } ∷ [])

abbrev pub as_answer : ℕ → Result (List Frame) Code → Answer
as_answer unit (Ok frames) = found unit frames
as_answer unit (Err code) = fault unit code

unfoldable pub answer_in : Sections → ℕ → Answer
answer_in sections a =
    option_map_or (λ unit. as_answer unit.offset (unit_answer sections unit a)) (unit_of sections a) not_covered

unfoldable pub location_in : Sections → ℕ → Answer
location_in sections a =
    option_map_or (λ unit. as_answer unit.offset (unit_location sections unit a)) (unit_of sections a) not_covered

-- What an address of a file means: its frames.
abbrev pub answer : List ℕ → ℕ → Answer
answer file a = answer_in (sections file) a

-- The same without functions: one frame without a name, which needs no tree.
abbrev pub location : List ℕ → ℕ → Answer
location file a = location_in (sections file) a
