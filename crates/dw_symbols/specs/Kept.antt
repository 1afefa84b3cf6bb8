-- What is kept, by keys.
use Rattle.std.specs.Prelude.{◌≤◌, ◌+◌, ℕ, List, [], ◌∷◌, length, nat_eq, Contains, IsSome, Result}
use Rattle.std.specs.Map.{lookup}
use Rattle.dw_model.specs.Section.{Sections}
use Rattle.dw_line.specs.TableAt.{table_size}
use Rattle.dw_frames.specs.UnitIn.{UnitIn}
use Rattle.dw_units.specs.UnitAt.{unit_at}
use Rattle.dw_symbols.specs.declared.answer.UnitFault.{UnitFault}
use Rattle.dw_symbols.specs.declared.table_cache.KeptTables.{KeptTables}
use Rattle.dw_symbols.specs.UnitParts.{HasTree, IsTableAt}

-- each value that is kept is that of its key
abbrev pub AreOf : {V : Type 0} → (ℕ → V → Type 0) → List (ℕ × V) → Type 0
AreOf {V} Is entries = (k : ℕ) (v : V) → Contains entries (k, v) → Is k v

-- the functions of the unit at a place
abbrev pub IsTreeAt : Sections → ℕ → Result UnitIn UnitFault → Type 0
IsTreeAt sections i read = HasTree sections (unit_at sections i) read

-- the functions of units, by their places
abbrev pub AreTrees : Sections → List (ℕ × Result UnitIn UnitFault) → Type 0
AreTrees sections entries = AreOf (IsTreeAt sections) entries

-- how many bytes the tables at these offsets have, counted for each of them
abbrev pub size_together : {V : Type 0} → List ℕ → List (ℕ × V) → ℕ
size_together line [] = 0
size_together line (entry ∷ entries) = table_size line entry.0 + size_together line entries

-- The line tables that are kept are those at their offsets, and have together no more bytes than
-- .debug_line.
pub record AreTables (line : List ℕ) (kept : KeptTables) : Type 0 where
  pub each : AreOf (IsTableAt line) kept.tables.entries
  pub counted : size_together line kept.tables.entries ≤ kept.size
  pub within : kept.size ≤ length line

-- the line table at an offset is kept
abbrev pub IsKeptAt : ℕ → KeptTables → Type 0
IsKeptAt offset kept = IsSome (lookup (nat_eq offset) kept.tables.entries)
