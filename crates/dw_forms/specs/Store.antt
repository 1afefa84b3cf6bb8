-- The declarations that were read of .debug_abbrev, and the tables that begin among them.
use Rattle.std.specs.Prelude.{◌≡◌, ◌≤◌, ◌<◌, ℕ, List, [], ◌∷◌, Option, Some, None, Ok, IsSome, drop, length}
use Rattle.std.specs.Prelude.{slice_index_or}
use Rattle.dw_model.specs.Reading.{Place}
use Rattle.dw_model.specs.Abbrev.{Declaration, next_declaration, abbreviations}
use Rattle.dw_forms.specs.declared.declaration.Decl.{Decl}
use Rattle.dw_forms.specs.declared.run.Start.{Start}
use Rattle.dw_forms.specs.Declaration.{declaration_shown}
use Rattle.dw_forms.specs.Starts.{StartList, start_at}

-- The section, how many declarations each run has, the table that begins with each run, and where
-- each declaration begins that was read.
pub record Read : Type 0 where
  pub section : List ℕ
  pub sizes : List ℕ
  pub tables : List (List Declaration)
  pub starts : StartList

-- the table that begins here
abbrev pub table_from : Read → Start → List Declaration
table_from read start = drop start.index (slice_index_or read.tables start.run [])

-- how many declarations a run has
abbrev pub size_of_run : Read → ℕ → ℕ
size_of_run read run = slice_index_or read.sizes run 0

-- No more declarations of the run are before the start than it has.
abbrev pub IsWithin : Read → Start → Type 0
IsWithin read start = start.index ≤ size_of_run read start.run

-- The table that begins here is the one at the offset.
abbrev pub HasTable : Read → (offset : ℕ) → Start → Type 0
HasTable read offset start =
    (start.run < length read.tables) × IsWithin read start
    × (abbreviations read.section offset ≡ Ok (table_from read start))

-- A declaration that was read begins at the offset.
abbrev pub HasRead : Read → (offset : ℕ) → Type 0
HasRead read offset = IsSome (start_at read.starts offset)

-- Each table that was read before begins where it began.
abbrev pub IsKept : Read → Read → Type 0
IsKept old new =
    (start : Start) → start.run < length old.tables → (start.run < length new.tables)
    × (size_of_run new start.run ≡ size_of_run old start.run) × (table_from new start ≡ table_from old start)

-- ---- how a run is read

-- The declarations stand one after the other between two places.
abbrev pub AreChained : Place → List Decl → Place → Type 0
AreChained p [] q = p ≡ q
AreChained p (declaration ∷ others) q =
    (declaration.offset ≡ p.at) × (t : Place) × (next_declaration p ≡ Ok (Some (declaration_shown declaration), t))
    × AreChained t others q

-- A run ends at a place where a table begins that was read before, or where the table ends.
abbrev pub EndsAt : StartList → Place → Option Start → Type 0
EndsAt starts q None = (t : Place) × (next_declaration q ≡ Ok (None, t))
EndsAt starts q (Some start) = start_at starts q.at ≡ Some start

-- The run from a place on was read.
abbrev pub IsRunAt : StartList → Place → List Decl → Option Start → Type 0
IsRunAt starts p declarations rest = (q : Place) × AreChained p declarations q × EndsAt starts q rest
