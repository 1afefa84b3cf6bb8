-- Range lists that are asked by an index, whichever base they count from.
use Rattle.std.specs.Prelude.{◌≡◌, ℕ, Bool, not, ◌==◌, List, length, Option, Result, Ok, Err}
use Rattle.dw_model.specs.Faults.{Bad}
use Rattle.dw_model.specs.Answers.{Tells}
use Rattle.dw_model.specs.Ranges.{Range}
use Rattle.dw_model.specs.Text.{Tables}
use Rattle.dw_ranges.specs.declared.fault.RangeFault.{RangeFault}
use Rattle.dw_ranges.specs.declared.range_list.RangeList.{RangeList}
use Rattle.dw_ranges.specs.Fault.{range_fault}
use Rattle.dw_ranges.specs.Held.{listed}
use Rattle.dw_ranges.specs.Lists.{ranges_of_list}

-- where a list begins and its place of addresses, with the tables of the file
pub record IndexedList : Type 0 where
  pub tables : Tables
  pub begin : ℕ
  pub addr : Option ℕ

-- the list that begins there and counts from a base
abbrev pub list_from : IndexedList → Option ℕ → RangeList
list_from indexed base = record { begin = indexed.begin; base = base; addr = indexed.addr }

-- its ranges that count
abbrev pub ranges_by : IndexedList → Option ℕ → Result (List Range) Bad
ranges_by indexed base = ranges_of_list indexed.tables (list_from indexed base)

-- the same; none where they can't be read
abbrev pub listed_from : IndexedList → Option ℕ → List Range
listed_from indexed base = listed indexed.tables (list_from indexed base)

-- it is what a list has, whichever base it counts from
abbrev pub IsOfList : Tables → RangeList → IndexedList → Type 0
IsOfList tables list indexed = indexed ≡ record { tables = tables; begin = list.begin; addr = list.addr }

-- whether there are ranges, where they can be read; else the fault
abbrev pub TellsSome : Result Bool RangeFault → Result (List Range) Bad → Type 0
TellsSome (Ok some) given = (ranges : List Range) × (given ≡ Ok ranges) × ((length ranges == 0) ≡ not some)
TellsSome (Err fault) given = Tells (range_fault fault) given
