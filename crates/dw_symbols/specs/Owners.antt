-- Which unit owns an address.
use Rattle.std.specs.Prelude.{◌≡◌, ℕ, ◌+◌, ◌/◌, ◌&&◌, length, List, [], Bool, Option, Some, MatchOption}
use Rattle.std.specs.Prelude.{Result, Ok, option_map, if◌then◌else◌}
use Rattle.std.specs.Result.{result_unwrap_or}
use Rattle.dw_model.specs.Results.{or_fault}
use Rattle.dw_model.specs.Faults.{Bad, Refusal, root_ranges}
use Rattle.dw_model.specs.Section.{Sections}
use Rattle.dw_model.specs.Text.{Tables}
use Rattle.dw_model.specs.Unit.{DwarfUnit, units}
use Rattle.dw_model.specs.Root.{answers}
use Rattle.dw_model.specs.Ranges.{Range, covers}
use Rattle.dw_model.specs.Refusal.{ranges_refusal, unit_ranges}
use Rattle.dw_model.specs.Answer.{unit_of}
use Rattle.dw_units.specs.UnitAt.{unit_at}
use Rattle.dw_ranges.specs.Claims.{AreCounted, Claim, OwnersState}
use Rattle.dw_ranges.specs.Claims.{held_ranges, owner_in, owner_of}
use Rattle.dw_ranges.specs.Held.{listed}
use Rattle.dw_ranges.specs.Lists.{IsOneAtMost, ranges_of_list}
use Rattle.dw_ranges.specs.declared.held.Listed.{Listed}
use Rattle.dw_ranges.specs.declared.range_list.RangeList.{RangeList}
use Rattle.dw_frames.specs.Placed.{first}

-- ---- what units claim

-- the ranges of a unit's first entry, where the unit answers; none where it doesn't
abbrev pub ranges_in : Sections → DwarfUnit → Result (List Range) Bad
ranges_in sections unit = if answers unit.kind then unit_ranges sections unit else Ok []

-- the same, or that they are bad, with the unit
abbrev pub checked_ranges : Sections → DwarfUnit → Result (List Range) Refusal
checked_ranges sections unit = or_fault (root_ranges unit.offset) (ranges_in sections unit)

-- a unit answers an address
abbrev pub answers_at : Sections → ℕ → DwarfUnit → Bool
answers_at sections a unit = answers unit.kind && covers a (result_unwrap_or (unit_ranges sections unit) [])

-- Of each address the first of some units owns it that answers it, by its place.
abbrev pub Owns : Sections → List DwarfUnit → List Claim → Type 0
Owns sections units claims = (a : ℕ) → owner_in claims 0 a ≡ first (answers_at sections a) units

-- not all can be read, for a reason that is told, where there is one
abbrev pub Refuses : Option Refusal → Sections → Type 0
Refuses told sections = MatchOption told (Unit {0}) (λ refusal. ranges_refusal sections ≡ Some refusal)

-- what a unit's list is, where it names one
abbrev pub IsNamed : Sections → DwarfUnit → Option RangeList → Type 0
IsNamed sections unit list = MatchOption list (IsOneAtMost (ranges_in sections unit))
    (λ list. ranges_in sections unit ≡ ranges_of_list sections.tables list)

-- A list that is held is the one that is named, and can be read.
pub record Holds (tables : Tables) (list : Option RangeList) (held : Listed) : Type 0 where
  pub named : RangeList
  pub is : list ≡ Some named
  pub same : held_ranges tables held ≡ listed tables named
  pub ranges : List Range
  pub read : ranges_of_list tables named ≡ Ok ranges

-- ---- how units are found

-- the first unit that has an address
abbrev pub first_unit : Tables → OwnersState → ℕ → Option ℕ
first_unit tables owners a = owner_of tables owners 0 a

-- it is the unit that answers an address, for each address
abbrev pub FindsUnits : Sections → OwnersState → Type 0
FindsUnits sections owners =
    (a : ℕ) → option_map (unit_at sections) (first_unit sections.tables owners a) ≡ unit_of sections a

-- So many ranges and lists are enough: the unit of each address is found by them.
abbrev pub AreEnough : Sections → ℕ → Type 0
AreEnough sections size = (owners : OwnersState) × FindsUnits sections owners × AreCounted owners size

-- The most ranges and lists that are kept for units: ranges of lists up to a third of the bytes of
-- .debug_rnglists, since an entry that makes a range takes three bytes at least, and a range or a
-- list for each unit.
abbrev pub most_kept : Sections → ℕ
most_kept sections = length sections.tables.rnglists / 3 + length (units sections.info)
