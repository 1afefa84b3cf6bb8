-- Range lists that were read for earlier functions of a unit.
use Rattle.std.specs.Prelude.{◌≡◌, ◌⊎◌, ℕ, false, List, length, Option, Some, Result, Ok, OnOk, ◌==◌}
use Rattle.dw_model.specs.Entry.{Entry}
use Rattle.dw_model.specs.Ranges.{Range}
use Rattle.dw_model.specs.Text.{Tables}
use Rattle.dw_model.specs.Tree.{entry_ranges_in}
use Rattle.dw_ranges.specs.declared.fault.RangeFault.{RangeFault}
use Rattle.dw_ranges.specs.declared.range_list.RangeList.{RangeList}
use Rattle.dw_ranges.specs.Claims.{in_group, owner_in}
use Rattle.dw_ranges.specs.Held.{listed}
use Rattle.dw_ranges.specs.Lists.{ranges_of_list}
use Rattle.dw_ranges.specs.Owned.{AreOwned}
use Rattle.dw_ranges.specs.ReadLists.{Has}
use Rattle.dw_ranges.specs.Tails.{EndsAs, ReadsNew, tail_at}
use Rattle.dw_frames.specs.Drafts.{Drafts, with_function}
use Rattle.dw_frames.specs.Reading.{Reading}
use Rattle.dw_frames.specs.UnitIn.{UnitIn}

-- a list has ranges
abbrev pub HasRanges : Tables → RangeList → Type 0
HasRanges tables list =
    (ranges : List Range) × (ranges_of_list tables list ≡ Ok ranges) × ((length ranges == 0) ≡ false)

-- a list has ranges, each address of which has an owner in a group
abbrev pub IsOwned : Drafts → RangeList → (group : ℕ) → Type 0
IsOwned drafts list group =
    (some : HasRanges drafts.of.sections.tables list)
    × AreOwned (in_group group drafts.claims) (length drafts.functions) some.0

-- the ranges of an entry of a unit are those of a list
abbrev pub IsListed : UnitIn → Entry → RangeList → Type 0
IsListed of entry list = entry_ranges_in of.sections of.unit entry ≡ ranges_of_list of.sections.tables list

-- A list was read for a function in a group, up to where it goes on as one that is owned there.
pub record ReadsList (list : RangeList) (group : ℕ) (old : Reading) (result : Result (Option RangeList) RangeFault)
    (new : Reading) : Type 0 where
  pub of : new.of ≡ old.of
  pub owned : new.owned ≡ old.owned
  pub ranges : ReadsNew old.of.sections.tables old.owned (list, group) result new.ranges
  pub begins : OnOk result ((begin : ℕ) → Has new.begins begin
      → EndsAs old.of.sections.tables list (tail_at list begin))

-- The unit is the same, and of lists it is known in which groups earlier functions own each address
-- of theirs.
pub record Knows (reading : Reading) (drafts : Drafts) : Type 0 where
  pub of : drafts.of ≡ reading.of
  pub owned : (known : RangeList × ℕ) → Has reading.owned known → IsOwned drafts known.0 known.1

-- Of two drafts each has the same unit, functions and open lists as the other, and each address the
-- same owners.
pub record Same (drafts other : Drafts) : Type 0 where
  pub of : other.of ≡ drafts.of
  pub functions : other.functions ≡ drafts.functions
  pub lists : other.lists ≡ drafts.lists
  pub owners : (group a : ℕ) → owner_in other.claims group a ≡ owner_in drafts.claims group a

-- A function was added with its ranges, or with those of its list, which is held.
abbrev pub WasAdded : Entry → List Range → Option RangeList → Drafts → Drafts → Type 0
WasAdded entry ranges list old new =
    Same (with_function entry ranges old) new
    ⊎ ((one : RangeList) × (list ≡ Some one) × Same (with_function entry (listed old.of.sections.tables one) old) new)
