-- Ranges of addresses (DWARF 5, sections 2.17 and 7.25).
use Rattle.std.specs.Prelude.{ℕ, ◌+◌, ◌-◌, ◌*◌, ◌^◌, pos, negsuc, Bool, ◌&&◌, List, [], ◌∷◌, drop, Option, Some, None}
use Rattle.std.specs.Prelude.{Result, Ok, Err, ok_or, filter, nat_eq, nat_lt, nat_le, ◌==◌, if◌then◌else◌}
use Rattle.std.specs.List.{list_any}
use Rattle.std.specs.Option.{option_map_or}
use Rattle.std.specs.Map.{lookup}
use Rattle.dw_model.specs.declared.dwarf.TheConstants as constants
use Rattle.dw_model.specs.Results.{◌>>=◌, or_fault}
use Rattle.dw_model.specs.Reading.{Place, made, number_at, items}
use Rattle.dw_model.specs.Leb.{uleb_at}
use Rattle.dw_model.specs.Form.{Value}
use Rattle.dw_model.specs.Form as values
use Rattle.dw_model.specs.Entry.{Entry, attribute}
use Rattle.dw_model.specs.Text.{Tables, Bases, number_in, address}
use Rattle.dw_model.specs.Faults.{Bad, bad}

-- the addresses from begin on and below end
pub record Range : Type 0 where
  pub begin : ℕ
  pub end : ℕ

abbrev pub range : ℕ → ℕ → Range
range begin end = record { begin = begin; end = end }

abbrev pub holds : ℕ → Range → Bool
holds a range = nat_le range.begin a && nat_lt a range.end

-- Only such ranges count (own): so the marks near 2 ^ 64 that a linker leaves for what it dropped
-- make no range.
abbrev pub is_kept : Range → Bool
is_kept range = nat_lt range.begin range.end && nat_le range.end (2 ^ 64 - 1)

-- An entry of a range list: it sets the base, or makes a range (table 7.30). Indexes are those of
-- addresses.
pub data RangeEntry : Type 0 where
  base_addressx : (index : ℕ) → RangeEntry
  startx_endx : (start end : ℕ) → RangeEntry
  startx_length : (start length : ℕ) → RangeEntry
  offset_pair : (start end : ℕ) → RangeEntry
  base_address : (address : ℕ) → RangeEntry
  start_end : (start end : ℕ) → RangeEntry
  start_length : (start length : ℕ) → RangeEntry

-- ---- reading a list

abbrev pub Operand : Type 0
Operand = Place → Result (ℕ × Place) Bad

abbrev pub leb : Operand
leb p = or_fault bad (uleb_at p)

abbrev pub eight_bytes : Operand
eight_bytes p = ok_or (number_at 8 p) bad

abbrev pub one : Operand → (ℕ → RangeEntry) → Place → Result (RangeEntry × Place) Bad
one first make p = made make (first p)

abbrev pub two : Operand → Operand → (ℕ → ℕ → RangeEntry) → Place → Result (RangeEntry × Place) Bad
two first second make p = do
  x ← first p
  y ← second x.1
  Ok (make x.0 y.0, y.1)

-- the operands of each entry
abbrev pub operands : List (ℕ × (Place → Result (RangeEntry × Place) Bad))
operands =
    (constants.DW_RLE_base_addressx, one leb base_addressx)
    ∷ (constants.DW_RLE_startx_endx, two leb leb startx_endx)
    ∷ (constants.DW_RLE_startx_length, two leb leb startx_length)
    ∷ (constants.DW_RLE_offset_pair, two leb leb offset_pair)
    ∷ (constants.DW_RLE_base_address, one eight_bytes base_address)
    ∷ (constants.DW_RLE_start_end, two eight_bytes eight_bytes start_end)
    ∷ (constants.DW_RLE_start_length, two eight_bytes leb start_length)
    ∷ []

unfoldable pub next_range_entry : Place → Result (Option RangeEntry × Place) Bad
next_range_entry p = do
  code ← ok_or (number_at 1 p) bad
  if code.0 == constants.DW_RLE_end_of_list then Ok (None, code.1) else (do
    read ← ok_or (lookup (nat_eq code.0) operands) bad
    entry ← read code.1
    Ok (Some entry.0, entry.1))

-- the entries up to the end of the list
abbrev pub range_entries : Place → Result (List RangeEntry) Bad
range_entries p = items (λ q. q.left) next_range_entry p >>= λ found. Ok found.0

-- ---- the ranges that entries make

abbrev pub address_of : Tables → Bases → Value → Result ℕ Bad
address_of tables bases value = ok_or (address tables bases value) bad

abbrev pub address_at : Tables → Bases → ℕ → Result ℕ Bad
address_at tables bases index = address_of tables bases (values.address_index index)

abbrev pub onto_ranges : ℕ → ℕ → Result (List Range) Bad → Result (List Range) Bad
onto_ranges begin end others = others >>= λ ranges. Ok (range begin end ∷ ranges)

-- The range of each entry that makes one, in order. The base in force is that of the last entry
-- that set it, else the first base, which is needed only where an offset_pair is before any entry
-- that sets it (own).
unfoldable pub entry_ranges : Tables → Bases → Result ℕ Bad → List RangeEntry → Result (List Range) Bad
entry_ranges tables bases base [] = Ok []
entry_ranges tables bases base (base_addressx index ∷ entries) = do
  a ← address_at tables bases index
  entry_ranges tables bases (Ok a) entries
entry_ranges tables bases base (base_address a ∷ entries) = entry_ranges tables bases (Ok a) entries
entry_ranges tables bases base (startx_endx start end ∷ entries) = do
  a ← address_at tables bases start
  b ← address_at tables bases end
  onto_ranges a b (entry_ranges tables bases base entries)
entry_ranges tables bases base (startx_length start length ∷ entries) = do
  a ← address_at tables bases start
  onto_ranges a (a + length) (entry_ranges tables bases base entries)
entry_ranges tables bases base (offset_pair start end ∷ entries) = do
  a ← base
  onto_ranges (a + start) (a + end) (entry_ranges tables bases base entries)
entry_ranges tables bases base (start_end start end ∷ entries) =
    onto_ranges start end (entry_ranges tables bases base entries)
entry_ranges tables bases base (start_length start length ∷ entries) =
    onto_ranges start (start + length) (entry_ranges tables bases base entries)

-- where the list begins that DW_AT_ranges names: at an offset, or at one that is at an index after
-- the base
unfoldable pub list_offset : Tables → Bases → Value → Result ℕ Bad
list_offset tables bases (values.section_offset offset) = Ok offset
list_offset tables bases (values.range_index index) = do
  base ← ok_or bases.rnglists bad
  offset ← ok_or (number_in tables.rnglists (base + bases.offset_size * index) bases.offset_size) bad
  Ok (base + offset)
list_offset tables bases _ = Err bad

-- the ranges of the list that DW_AT_ranges names
unfoldable pub list_ranges : Tables → Bases → Result ℕ Bad → Value → Result (List Range) Bad
list_ranges tables bases base value = do
  offset ← list_offset tables bases value
  entries ← range_entries (record { at = offset; left = drop offset tables.rnglists })
  entry_ranges tables bases base entries

-- the end of a range by DW_AT_high_pc: an address, or how many there are; a negative number puts it
-- below the begin
abbrev pub high_end : Tables → Bases → ℕ → Value → Result ℕ Bad
high_end tables bases begin (values.unsigned n) = Ok (begin + n)
high_end tables bases begin (values.signed (pos n)) = Ok (begin + n)
high_end tables bases begin (values.signed (negsuc n)) = Ok (begin - (n + 1))
high_end tables bases begin value = address_of tables bases value

-- the range from DW_AT_low_pc to DW_AT_high_pc, where both are there; one alone makes none (own)
unfoldable pub pc_ranges : Tables → Bases → Entry → Result (List Range) Bad
pc_ranges tables bases entry =
    option_map_or (λ low. option_map_or (λ high. do
      begin ← address_of tables bases low
      end ← high_end tables bases begin high
      Ok (range begin end ∷ [])) (attribute constants.DW_AT_high_pc entry) (Ok []))
    (attribute constants.DW_AT_low_pc entry) (Ok [])

-- the base of a unit's lists before any entry sets one: the address of its first entry, else 0
-- (own)
abbrev pub first_base : Tables → Bases → Option Entry → Result ℕ Bad
first_base tables bases root =
    option_map_or (λ entry. option_map_or (address_of tables bases) (attribute constants.DW_AT_low_pc entry) (Ok 0))
    root (Ok 0)

-- The ranges of an entry that count, in order; `root` is the first entry of its unit.
unfoldable pub ranges_of : Tables → Bases → Option Entry → Entry → Result (List Range) Bad
ranges_of tables bases root entry = do
  ranges ← option_map_or (list_ranges tables bases (first_base tables bases root))
      (attribute constants.DW_AT_ranges entry) (pc_ranges tables bases entry)
  Ok (filter is_kept ranges)

-- some range holds the address
abbrev pub covers : ℕ → List Range → Bool
covers a ranges = list_any (holds a) ranges
