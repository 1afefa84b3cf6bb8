-- The parts of a path, as the unit that asks for it sees them.
use Rattle.std.specs.Prelude.{ℕ, List, Option, None, unwrap_or, option_map, nat_lt, if◌then◌else◌}
use Rattle.dw_model.specs.LineHeader.{LineHeader}
use Rattle.dw_model.specs.Path.{joined, directory_path}
use Rattle.dw_forms.specs.Tables.{tables_shown, bases_shown}
use Rattle.dw_line.specs.declared.header.Header.{Header}
use Rattle.dw_line.specs.declared.path.AskingUnit.{AskingUnit}
use Rattle.dw_line.specs.Header.{header_in}

-- the header, with the texts of a unit
abbrev pub header_for : AskingUnit → Header → LineHeader
header_for unit header = header_in (tables_shown unit.tables) (bases_shown unit.bases) header

-- a part, where there is one, put after a path
abbrev pub joined_some : List ℕ → Option (List ℕ) → List ℕ
joined_some path part = unwrap_or (option_map (joined path) part) path

-- the path of a file's directory, which counts unless it is directory 0
abbrev pub file_directory : LineHeader → ℕ → Option (List ℕ)
file_directory header n = if nat_lt 0 n then directory_path header n else None
