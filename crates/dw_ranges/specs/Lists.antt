-- Range lists, by where they begin and what their entries count from.
use Rattle.std.specs.Prelude.{◌≡◌, ◌≤◌, ℕ, List, length, Option, None, Result, Ok}
use Rattle.dw_model.specs.Results.{◌>>=◌}
use Rattle.dw_model.specs.Entry.{Entry}
use Rattle.dw_model.specs.Form.{Value}
use Rattle.dw_model.specs.Text.{Tables, Bases}
use Rattle.dw_model.specs.Faults.{Bad}
use Rattle.dw_model.specs.Ranges.{Range, first_base, list_ranges}
use Rattle.dw_ranges.specs.declared.range_list.RangeList.{RangeList}
use Rattle.dw_ranges.specs.OutcomeShown.{base_shown}
use Rattle.dw_ranges.specs.Step.{all_kept, place_at, ranges_from}

-- bases of a unit of which only that of addresses is there
abbrev pub only_addr : Option ℕ → Bases
only_addr addr = record { str_offsets = None; addr = addr; rnglists = None; offset_size = 4 }

-- the ranges of a list that count
abbrev pub ranges_of_list : Tables → RangeList → Result (List Range) Bad
ranges_of_list tables list =
    place_at tables.rnglists list.begin >>= ranges_from tables (only_addr list.addr) (base_shown list.base)

-- the list that a value names in a unit has these ranges
abbrev pub IsListOf : Tables → Bases → Option Entry → Value → RangeList → Type 0
IsListOf tables bases root value list =
    all_kept (list_ranges tables bases (first_base tables bases root) value) ≡ ranges_of_list tables list

-- there is one range at most, where they can be read
abbrev pub IsOneAtMost : Result (List Range) Bad → Type 0
IsOneAtMost read = (ranges : List Range) → read ≡ Ok ranges → length ranges ≤ 1
