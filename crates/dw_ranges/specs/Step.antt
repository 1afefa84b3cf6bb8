-- What each entry of a range list does, one after the other.
use Rattle.std.specs.Prelude.{ℕ, ◌+◌, nat_le, if◌then◌else◌}
use Rattle.std.specs.Prelude.{List, drop, length, filter, Option, Some, None, Result, Ok, Err}
use Rattle.dw_model.specs.Results.{◌>>=◌}
use Rattle.dw_model.specs.Reading.{Place}
use Rattle.dw_model.specs.Form.{Value}
use Rattle.dw_model.specs.Text.{Tables, Bases}
use Rattle.dw_model.specs.Faults.{Bad, bad}
use Rattle.dw_model.specs.Ranges.{RangeEntry, base_addressx, startx_endx, startx_length, offset_pair, base_address}
use Rattle.dw_model.specs.Ranges.{start_end, start_length, address_at, range_entries}
use Rattle.dw_model.specs.Ranges.{Range, range, is_kept, entry_ranges, list_offset, high_end}

-- the range, where it counts
abbrev pub kept : Range → Option Range
kept found = if is_kept found then Some found else None

-- of ranges those that count
abbrev pub all_kept : Result (List Range) Bad → Result (List Range) Bad
all_kept ranges = ranges >>= λ found. Ok (filter is_kept found)

-- what is after an entry: the base in force, and the range that the entry makes, where that counts
pub record Outcome : Type 0 where
  pub base : Result ℕ Bad
  pub range : Option Range

abbrev pub with_base : Result ℕ Bad → Outcome
with_base base = record { base = base; range = None }

abbrev pub with_range : Result ℕ Bad → (begin end : ℕ) → Outcome
with_range base begin end = record { base = base; range = kept (range begin end) }

-- what an entry does, where an address that it names can be read
unfoldable pub step : Tables → Bases → Result ℕ Bad → RangeEntry → Result Outcome Bad
step tables bases base (base_addressx index) = do
  a ← address_at tables bases index
  Ok (with_base (Ok a))
step tables bases base (base_address a) = Ok (with_base (Ok a))
step tables bases base (startx_endx start end) = do
  a ← address_at tables bases start
  b ← address_at tables bases end
  Ok (with_range base a b)
step tables bases base (startx_length start length) = do
  a ← address_at tables bases start
  Ok (with_range base a (a + length))
step tables bases base (offset_pair start end) = do
  a ← base
  Ok (with_range base (a + start) (a + end))
step tables bases base (start_end start end) = Ok (with_range base start end)
step tables bases base (start_length start length) = Ok (with_range base start (start + length))

-- the place at an offset of a section, where the section has it
abbrev pub place_at : List ℕ → ℕ → Result Place Bad
place_at section offset =
    if nat_le offset (length section) then Ok (record { at = offset; left = drop offset section }) else Err bad

-- the place where a list begins, where that is in the section
abbrev pub list_place : Tables → Bases → Value → Result Place Bad
list_place tables bases value = do
  offset ← list_offset tables bases value
  place_at tables.rnglists offset

-- the ranges of the list at a place that count
abbrev pub ranges_from : Tables → Bases → Result ℕ Bad → Place → Result (List Range) Bad
ranges_from tables bases base p =
    all_kept (range_entries p >>= λ entries. entry_ranges tables bases base entries)

-- the range from an address to what DW_AT_high_pc says, where it counts
abbrev pub high_range : Tables → Bases → ℕ → Value → Result (Option Range) Bad
high_range tables bases begin value = high_end tables bases begin value >>= λ end. Ok (kept (range begin end))
