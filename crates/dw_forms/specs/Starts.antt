-- Where the declarations that were read begin.
use Rattle.std.specs.Prelude.{◌≡◌, ◌≢◌, ◌≤◌, ◌⊎◌, ◌+◌, ◌/◌, ◌<◌, ℕ, List, Option, Some, None, IsSome, length, nat_eq}
use Rattle.std.specs.Prelude.{slice_get}
use Rattle.std.specs.List.{IsDistinct}
use Rattle.std.specs.Map.{keys_of, lookup}
use Rattle.dw_forms.specs.declared.run.Start.{Start}

-- offsets in .debug_abbrev, each with the run and the index of the declaration there
abbrev pub StartList : Type 0
StartList = List (ℕ × Start)

-- the start that an offset has
abbrev pub start_at : StartList → ℕ → Option Start
start_at starts offset = lookup (nat_eq offset) starts

-- All offsets that have a start are below the end.
abbrev pub AreBelow : (end : ℕ) → StartList → Type 0
AreBelow end starts = (offset : ℕ) (start : Start) → start_at starts offset ≡ Some start → offset < end

-- The offsets are in groups of 32 bytes.
abbrev pub group_of : (offset : ℕ) → ℕ
group_of offset = offset / 32

-- Of the first so many starts, the last one in a group has this place, from 1 on; place 0 says
-- that there is none.
pub record IsLast (starts : StartList) (group count place : ℕ) : Type 0 where
  pub within : place ≤ count
  pub own : (k offset : ℕ) (start : Start) → place ≡ k + 1 → slice_get starts k ≡ Some (offset, start)
      → group_of offset ≡ group
  pub others : (k offset : ℕ) (start : Start) → place ≤ k → k < count → slice_get starts k ≡ Some (offset, start)
      → group_of offset ≢ group

-- Each group leads to its last start, and each start to the one before it in its group.
pub record AreLinked (heads before : List ℕ) (starts : StartList) : Type 0 where
  pub distinct : IsDistinct nat_eq (keys_of starts)
  pub counted : length before ≡ length starts
  pub lasts : (group place : ℕ) → slice_get heads group ≡ Some place → IsLast starts group (length starts) place
  pub grouped : (k offset : ℕ) (start : Start) → slice_get starts k ≡ Some (offset, start)
      → group_of offset < length heads
  pub earlier : (k offset place : ℕ) (start : Start) → slice_get starts k ≡ Some (offset, start)
      → slice_get before k ≡ Some place → IsLast starts (group_of offset) k place

-- Groups that are added have no start yet; the others keep theirs.
pub record AreGrown (old new : List ℕ) : Type 0 where
  pub longer : length old ≤ length new
  pub each : (group place : ℕ) → slice_get new group ≡ Some place
      → (slice_get old group ≡ Some place) ⊎ ((length old ≤ group) × (place ≡ 0))

-- These offsets are in the first so many groups.
abbrev pub AreGrouped : (groups : ℕ) → List ℕ → Type 0
AreGrouped groups offsets = (k offset : ℕ) → slice_get offsets k ≡ Some offset → group_of offset < groups

-- None of these offsets has a start.
abbrev pub AreApart : StartList → List ℕ → Type 0
AreApart starts offsets = (k offset : ℕ) → slice_get offsets k ≡ Some offset → start_at starts offset ≡ None

-- Each offset is above those before it.
abbrev pub AreRising : List ℕ → Type 0
AreRising offsets = (j k a b : ℕ) → j < k → slice_get offsets j ≡ Some a → slice_get offsets k ≡ Some b → a < b

-- The first so many offsets of a run were added, each with its index, and no others; none was lost.
pub record AreAdded (run count : ℕ) (offsets : List ℕ) (old new : StartList) : Type 0 where
  pub each : (offset : ℕ) (start : Start) → start_at new offset ≡ Some start
      → (start_at old offset ≡ Some start) ⊎
      ((start.run ≡ run) × (start.index < count) × (slice_get offsets start.index ≡ Some offset))
  pub there : (k offset : ℕ) → k < count → slice_get offsets k ≡ Some offset → IsSome (start_at new offset)
  pub kept : (offset : ℕ) (start : Start) → start_at old offset ≡ Some start → start_at new offset ≡ Some start
  pub counted : length new ≡ length old + count
