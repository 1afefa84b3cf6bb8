-- Paths of a line table that are known.
use Rattle.std.specs.Prelude.{◌≡◌, ◌≤◌, ℕ, List, length, slice_get, slice_index_or}
use Rattle.std.specs.Prelude.{Option, Some, None, option_and_then, option_map}
use Rattle.dw_model.specs.Answer.{Lines}
use Rattle.dw_model.specs.Path.{path}
use Rattle.dw_symbols.specs.declared.paths.KnownPath.{KnownPath}

-- the path of a file by its number
abbrev pub file_path : Lines → ℕ → Option (List ℕ)
file_path table number = path table.header table.comp_dir number

-- the path of one that is known
abbrev pub path_shown : KnownPath → Option (List ℕ)
path_shown known = option_map (λ path. path.items) known.path

-- the path in a place
abbrev pub path_in : List (Option KnownPath) → ℕ → Option (List ℕ)
path_in paths place = option_and_then path_shown (slice_index_or paths place None)

-- each path that is known is that of its file
abbrev pub AreOfFiles : Lines → List (Option KnownPath) → Type 0
AreOfFiles table paths =
    (place : ℕ) (known : KnownPath) → slice_get paths place ≡ Some (Some known)
    → path_shown known ≡ file_path table known.number

-- There are at most 64 places, and each path that is known is that of its file.
pub record ArePathsOf (table : Lines) (paths : List (Option KnownPath)) : Type 0 where
  pub few : length paths ≤ 64
  pub each : AreOfFiles table paths
