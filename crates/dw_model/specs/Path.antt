-- Paths of source files (DWARF 5, section 6.2.4).
use Rattle.std.specs.Prelude.{ℕ, Bool, false, ◌||◌, List, [], ◌∷◌, ◌++◌, length, Option, Some, None, slice_get}
use Rattle.std.specs.Prelude.{slice_index, unwrap_or, option_map, ◌==◌, nat_lt, if◌then◌else◌}
use Rattle.std.specs.Option.{option_or}
use Rattle.dw_model.specs.Options.{◌>>=◌}
use Rattle.dw_model.specs.LineHeader.{LineHeader}

abbrev slash : ℕ
slash = 47

abbrev pub ends_in_slash : List ℕ → Bool
ends_in_slash [] = false
ends_in_slash (b ∷ []) = b == slash
ends_in_slash (b ∷ c ∷ bytes) = ends_in_slash (c ∷ bytes)

-- A part put after a path: it replaces the path where it begins with a slash, else one slash is
-- between, unless there is nothing before it or a slash already (own).
unfoldable pub joined : List ℕ → List ℕ → List ℕ
joined path part =
    if slice_index part 0 == slash then part else (
    if length path == 0 || ends_in_slash path then path ++ part else path ++ slash ∷ part)

-- the path of a numbered directory, where it is there and can be read
abbrev pub directory_path : LineHeader → ℕ → Option (List ℕ)
directory_path header n = do
  directory ← slice_get header.directories n
  directory.path

-- The path of file n: from directory 0, else from the directory in which the unit was compiled, by
-- the file's directory to its name. Directory 0 isn't put after itself.
unfoldable pub path : LineHeader → Option (List ℕ) → ℕ → Option (List ℕ)
path header comp_dir n = do
  file ← slice_get header.files n
  name ← file.path
  let top = unwrap_or (option_or (directory_path header 0) comp_dir) []
  let directory = if nat_lt 0 file.directory then directory_path header file.directory else None
  Some (joined (unwrap_or (option_map (joined top) directory) top) name)
