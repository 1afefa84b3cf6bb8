-- Lists that end as others do.
use Rattle.std.specs.Prelude.{◌≡◌, ◌==◌, ℕ, false, List, ◌++◌, length, Option, Some, None, Result, Ok, Err, MatchOption}
use Rattle.dw_model.specs.Results.{◌>>=◌}
use Rattle.dw_model.specs.Text.{Tables}
use Rattle.dw_model.specs.Faults.{Bad}
use Rattle.dw_model.specs.Ranges.{Range}
use Rattle.dw_ranges.specs.declared.fault.RangeFault.{RangeFault}
use Rattle.dw_ranges.specs.declared.range_list.RangeList.{RangeList}
use Rattle.dw_ranges.specs.Fault.{range_fault}
use Rattle.dw_ranges.specs.Lists.{ranges_of_list}
use Rattle.dw_ranges.specs.ReadLists.{Has}

-- ranges before those that are read later
abbrev pub onto_front : List Range → Result (List Range) Bad → Result (List Range) Bad
onto_front front later = later >>= λ ranges. Ok (front ++ ranges)

-- the list that begins at another place, with the same base and the same place of addresses
abbrev pub tail_at : RangeList → ℕ → RangeList
tail_at list begin = record { begin = begin; base = list.base; addr = list.addr }

-- A list ends as another one does, which has ranges where it can be read.
pub record EndsAs (tables : Tables) (list other : RangeList) : Type 0 where
  pub front : List Range
  pub same : ranges_of_list tables list ≡ onto_front front (ranges_of_list tables other)
  pub some : (ranges : List Range) → ranges_of_list tables other ≡ Ok ranges → (length ranges == 0) ≡ false

-- The ranges are those of the list, or those before it goes on as one that was read for the owner.
abbrev pub ReadsNew : Tables → List (RangeList × ℕ) → RangeList × ℕ
    → Result (Option RangeList) RangeFault → List Range → Type 0
ReadsNew tables read (list, owner) (Ok None) ranges = ranges_of_list tables list ≡ Ok ranges
ReadsNew tables read (list, owner) (Ok (Some other)) ranges =
    Has read (other, owner) × (ranges_of_list tables list ≡ onto_front ranges (ranges_of_list tables other))
ReadsNew tables read (list, owner) (Err fault) ranges =
    MatchOption (range_fault fault) (Unit {0}) (λ told. ranges_of_list tables list ≡ Err told)
