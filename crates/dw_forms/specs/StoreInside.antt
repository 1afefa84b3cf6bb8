-- What the declarations that were read are seen as, and how their tables are found.
use Rattle.std.specs.Prelude.{◌≡◌, ◌≤◌, ◌<◌, ◌++◌, ℕ, List, [], ◌∷◌, Option, Some, None, IfSome, drop, fold, length}
use Rattle.std.specs.Prelude.{map, slice_get, slice_index_or, sum}
use Rattle.dw_model.specs.Abbrev.{Declaration}
use Rattle.dw_forms.specs.declared.run.Start.{Start}
use Rattle.dw_forms.specs.declared.store.AbbrevStore.TheInside.{Inside}
use Rattle.dw_forms.specs.Run.{ReadRun}
use Rattle.dw_forms.specs.Starts.{start_at, AreBelow}
use Rattle.dw_forms.specs.Store.{Read, HasTable}

-- what follows a run, where tables begin with the runs before it
abbrev pub rest_in : List (List Declaration) → Option Start → List Declaration
rest_in tables None = []
rest_in tables (Some start) = drop start.index (slice_index_or tables start.run [])

-- the table that begins with a run
abbrev pub whole : List (List Declaration) → ReadRun → List Declaration
whole tables run = run.declarations ++ rest_in tables run.rest

abbrev pub grown : List (List Declaration) → ReadRun → List (List Declaration)
grown tables run = tables ++ whole tables run ∷ []

-- the tables that begin with the runs, in order
abbrev pub tables_of : List ReadRun → List (List Declaration)
tables_of runs = fold grown [] runs

abbrev pub sizes_of : List ReadRun → List ℕ
sizes_of runs = map (λ run. length run.declarations) runs

abbrev pub read_in : Inside → Read
read_in store = record {
  section = store.section.now;
  sizes = sizes_of store.runs.items;
  tables = tables_of store.runs.items;
  starts = store.starts;
}

-- A run leads to an earlier one, so its table is what it has and what the table from there on has.
pub record IsTabled (runs : List ReadRun) (k : ℕ) (run : ReadRun) : Type 0 where
  pub table : slice_index_or (tables_of runs) k [] ≡ whole (tables_of runs) run
  pub earlier : IfSome run.rest (λ start. (start.run < k) × (start.index ≤ slice_index_or (sizes_of runs) start.run 0))

-- All runs are so, as many as there are tables.
pub record AreTabled (runs : List ReadRun) : Type 0 where
  pub count : length (tables_of runs) ≡ length runs
  pub each : (k : ℕ) (run : ReadRun) → slice_get runs k ≡ Some run → IsTabled runs k run

pub record IsStored (store : Inside) : Type 0 where
  pub tabled : AreTabled store.runs.items
  pub counted : length store.starts ≡ sum (sizes_of store.runs.items)
  pub below : AreBelow (length store.section.now) store.starts
  pub starts : (offset : ℕ) (start : Start) → start_at store.starts offset ≡ Some start
      → HasTable (read_in store) offset start
