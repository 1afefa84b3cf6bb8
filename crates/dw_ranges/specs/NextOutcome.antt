-- What the next entry of a list does.
use Rattle.std.specs.Prelude.{ℕ, Option, Some, None, Result, Ok, ok_or, nat_eq, ◌==◌, if◌then◌else◌}
use Rattle.std.specs.Option.{option_map_or}
use Rattle.std.specs.Map.{lookup}
use Rattle.dw_model.specs.declared.dwarf.TheConstants as constants
use Rattle.dw_model.specs.Results.{◌>>=◌}
use Rattle.dw_model.specs.Reading.{Place}
use Rattle.dw_model.specs.Text.{Tables, Bases}
use Rattle.dw_model.specs.Faults.{Bad, bad}
use Rattle.dw_model.specs.Ranges.{RangeEntry, operands, next_range_entry}
use Rattle.dw_ranges.specs.Step.{Outcome, step}

-- the entry of a code, whose operands are at a place; nothing where the code ends the list
abbrev pub entry_behind : ℕ → Place → Result (Option RangeEntry × Place) Bad
entry_behind code p = if code == constants.DW_RLE_end_of_list then Ok (None, p) else (do
  read ← ok_or (lookup (nat_eq code) operands) bad
  entry ← read p
  Ok (Some entry.0, entry.1))

-- what an entry that was read does, where the base before it is this one; nothing at the list's end
abbrev pub done_by : Tables → Bases → Result ℕ Bad → Option RangeEntry × Place → Result (Option Outcome × Place) Bad
done_by tables bases base found =
    option_map_or (λ entry. step tables bases base entry >>= λ outcome. Ok (Some outcome, found.1))
    found.0 (Ok (None, found.1))

abbrev pub outcome_behind : Tables → Bases → Result ℕ Bad → ℕ → Place → Result (Option Outcome × Place) Bad
outcome_behind tables bases base code p = entry_behind code p >>= done_by tables bases base

-- what the entry at a place does
abbrev pub next_outcome : Tables → Bases → Result ℕ Bad → Place → Result (Option Outcome × Place) Bad
next_outcome tables bases base p = next_range_entry p >>= done_by tables bases base
