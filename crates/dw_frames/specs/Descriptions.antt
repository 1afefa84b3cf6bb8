-- What was told of the functions of a unit.
use Rattle.std.specs.Prelude.{◌≡◌, ℕ, List, All}
use Rattle.dw_frames.specs.declared.function.Described.{Described}
use Rattle.dw_frames.specs.declared.function.EntryId.{EntryId}
use Rattle.dw_frames.specs.Told.{described_shown}
use Rattle.dw_frames.specs.Tree.{told_at}
use Rattle.dw_frames.specs.UnitIn.{UnitIn}

-- the entry at an offset of a unit
abbrev pub id_in : UnitIn → ℕ → EntryId
id_in of offset = record { unit = of.index; offset = offset }

-- what is kept of a function is told of it
abbrev pub IsTold : UnitIn → ℕ × Described → Type 0
IsTold of kept = described_shown kept.1 ≡ told_at of (id_in of kept.0)

abbrev pub AreTold : UnitIn → List (ℕ × Described) → Type 0
AreTold of kept = All (IsTold of) kept
