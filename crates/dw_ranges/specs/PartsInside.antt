-- The ranges of a list while its entries are read, and in its index.
use Rattle.std.specs.Prelude.{◌≡◌, ◌⊎◌, ◌<◌, ℕ, ◌+◌, ◌^◌, Bool, true, false, List, [], ◌++◌, map, option_to_list}
use Rattle.std.specs.Prelude.{Option, Some, None, Result, Ok, Err, MatchOption}
use Rattle.dw_model.specs.Faults.{Bad, bad}
use Rattle.dw_model.specs.Ranges.{Range, RangeEntry, range}
use Rattle.dw_model.specs.Reading.{Place}
use Rattle.dw_model.specs.Text.{Tables, Bases}
use Rattle.dw_forms.specs.Tables.{tables_shown}
use Rattle.dw_index.specs.Owners.{least_owner}
use Rattle.dw_index.specs.Range.{pair_shown}
use Rattle.dw_index.specs.Segments.{owner_at}
use Rattle.dw_ranges.specs.declared.fault.RangeFault.{RangeFault}
use Rattle.dw_ranges.specs.declared.list_index.ListIndex.TheInside.{Inside}
use Rattle.dw_ranges.specs.declared.list_index.Readable.{Readable}
use Rattle.dw_ranges.specs.declared.list_index.Readable.TheVariants.{Always, WithBase, Never}
use Rattle.dw_ranges.specs.declared.list_index.parts.Parts.{Parts}
use Rattle.dw_ranges.specs.declared.range_list.RangeList.{RangeList}
use Rattle.dw_ranges.specs.Fault.{range_fault}
use Rattle.dw_ranges.specs.ListIndex.{IndexedList, ranges_by}
use Rattle.dw_ranges.specs.Lists.{ranges_of_list}
use Rattle.dw_ranges.specs.OutcomeShown.{base_shown}
use Rattle.dw_ranges.specs.Parts.{Makes, base_by, own_offsets}
use Rattle.dw_ranges.specs.Step.{kept, ranges_from, step}

-- ---- while entries are read

-- the ranges that were read, from a base
abbrev pub MakesRead : Parts → ℕ → List Range → Type 0
MakesRead parts base ranges =
    Makes (least_owner (map pair_shown parts.fixed.items)) (least_owner (map pair_shown parts.counted.items))
    parts.last_base base ranges

-- there is one range more from each base, where it counts
abbrev pub AddsOne : (ℕ → Option Range) → (old new : Parts) → Type 0
AddsOne one old new = (base : ℕ) (ranges : List Range) → base < 2 ^ 64 → MakesRead old base ranges
    → MakesRead new base (ranges ++ option_to_list (one base))

-- the range between two offsets from a base, where it counts
abbrev pub kept_from : (start end base : ℕ) → Option Range
kept_from start end base = kept (range (base + start) (base + end))

-- An entry that counts from the list's own base was added.
pub record AddsCounted (entry : RangeEntry) (old new : Parts) : Type 0 where
  pub start : ℕ
  pub end : ℕ
  pub offsets : own_offsets old.base entry ≡ Some (start, end)
  pub base : new.base ≡ None
  pub counted : new.is_counted ≡ true
  pub ranges : AddsOne (kept_from start end) old new

-- Another entry was added, which does the same from each base.
pub record AddsFixed (tables : Tables) (bases : Bases) (entry : RangeEntry) (old new : Parts) : Type 0 where
  pub one : Option Range
  pub offsets : own_offsets old.base entry ≡ None
  pub does : step tables bases (base_shown old.base) entry ≡ Ok (record { base = base_shown new.base; range = one })
  pub counted : new.is_counted ≡ old.is_counted
  pub ranges : AddsOne (λ _. one) old new

-- An entry was added, or can't be read from any base.
abbrev pub AddsEntry : Tables → Bases → RangeEntry → Result (Unit {0}) RangeFault → (old new : Parts) → Type 0
AddsEntry tables bases entry (Ok done) old new = AddsCounted entry old new ⊎ AddsFixed tables bases entry old new
AddsEntry tables bases entry (Err fault) old new =
    MatchOption (range_fault fault) (Unit {0})
    (λ told. (own_offsets old.base entry ≡ None) × (step tables bases (base_shown old.base) entry ≡ Err told))

-- The ranges of a list are those that were read, from a base; there is none where it can't be read.
abbrev pub AreRead : (from : Option ℕ) → Parts → Result (List Range) Bad → Type 0
AreRead from parts all = MatchOption from (all ≡ Err bad)
    (λ base. (ranges : List Range) × (all ≡ Ok ranges) × (base < 2 ^ 64 → MakesRead parts base ranges))

-- no entry was read
pub record IsFresh (parts : Parts) : Type 0 where
  pub base : parts.base ≡ None
  pub counted : parts.is_counted ≡ false
  pub last : parts.last_base ≡ None
  pub fixed : parts.fixed.items ≡ []
  pub ranges : parts.counted.items ≡ []

-- All entries at a place were read, or too many, or they can't be read from any base.
abbrev pub ReadsParts : Tables → Bases → Place → Result Bool RangeFault → Parts → Type 0
ReadsParts tables bases p (Ok true) parts =
    (first : Option ℕ) → AreRead (base_by parts.is_counted first) parts (ranges_from tables bases (base_shown first) p)
ReadsParts tables bases p (Ok false) parts = Unit {0}
ReadsParts tables bases p (Err fault) parts =
    MatchOption (range_fault fault) (Unit {0})
    (λ told. (first : Option ℕ) → ranges_from tables bases (base_shown first) p ≡ Err told)

-- the same list, with another base
abbrev pub with_base : RangeList → Option ℕ → RangeList
with_base list base = record { begin = list.begin; base = base; addr = list.addr }

-- The same of a list.
abbrev pub AreParts : Tables → RangeList → Result (Option Parts) RangeFault → Type 0
AreParts tables list (Ok (Some parts)) =
    (first : Option ℕ) → AreRead (base_by parts.is_counted first) parts (ranges_of_list tables (with_base list first))
AreParts tables list (Ok None) = Unit {0}
AreParts tables list (Err fault) =
    MatchOption (range_fault fault) (Unit {0})
    (λ told. (first : Option ℕ) → ranges_of_list tables (with_base list first) ≡ Err told)

-- ---- in an index

abbrev pub indexed_of : Inside → IndexedList
indexed_of index = record { tables = tables_shown index.tables; begin = index.begin; addr = index.addr }

-- the base from which ranges are counted of a list with a base
abbrev pub base_for : Readable → Option ℕ → Option ℕ
base_for Always base = base_by false base
base_for WithBase base = base_by true base
base_for Never base = None

-- The ranges of a list are those that were read, from each base from which it can be read.
abbrev pub IsReadBy : Tables → RangeList → Readable → Parts → Type 0
IsReadBy tables list readable parts =
    (first : Option ℕ) → AreRead (base_for readable first) parts (ranges_of_list tables (with_base list first))

-- The ranges of the list with a base are found, as they are from another; or it can't be read.
abbrev pub IsFound : Inside → Option ℕ → (from : Option ℕ) → Type 0
IsFound index first from = MatchOption from (ranges_by (indexed_of index) first ≡ Err bad)
    (λ base. (ranges : List Range) × (ranges_by (indexed_of index) first ≡ Ok ranges)
    × (base < 2 ^ 64 → Makes (owner_at index.fixed) (owner_at index.counted) index.last_base base ranges))

abbrev pub IsListIndex : Inside → Type 0
IsListIndex index = (first : Option ℕ) → IsFound index first (base_for index.readable first)
