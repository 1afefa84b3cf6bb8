-- The ranges of lists that are held by name.
use Rattle.std.specs.Prelude.{◌≡◌, ℕ, Bool, false, List, [], Result, Ok}
use Rattle.std.specs.Result.{result_unwrap_or}
use Rattle.dw_model.specs.Results.{◌>>=◌}
use Rattle.dw_model.specs.Faults.{Bad}
use Rattle.dw_model.specs.Ranges.{Range, covers}
use Rattle.dw_model.specs.Text.{Tables}
use Rattle.dw_ranges.specs.declared.range_list.RangeList.{RangeList}
use Rattle.dw_ranges.specs.Lists.{ranges_of_list}

-- the ranges of a list that count; none where they can't be read
abbrev pub listed : Tables → RangeList → List Range
listed tables list = result_unwrap_or (ranges_of_list tables list) []

-- whether ranges hold an address, where they can be read
abbrev pub held_at : ℕ → Result (List Range) Bad → Result Bool Bad
held_at a read = read >>= λ ranges. Ok (covers a ranges)

-- a list can be read, and has no range that holds an address
abbrev pub Lacks : Tables → ℕ → RangeList → Type 0
Lacks tables a list = held_at a (ranges_of_list tables list) ≡ Ok false
