-- The header of a line table (DWARF 5, section 6.2.4).
use Rattle.std.specs.Prelude.{ℕ, zero, suc, ◌-◌, ℤ, ◌||◌, not, List, [], ◌∷◌, length, drop, Option, None, Result, Ok}
use Rattle.std.specs.Prelude.{Err, ok_or, option_and_then, nat_lt, nat_eq, ◌==◌}
use Rattle.std.specs.Option.{option_map_or}
use Rattle.std.specs.Map.{lookup}
use Rattle.byteorder.specs.Endian.{twos_complement}
use Rattle.dw_model.specs.declared.dwarf.TheConstants.{DWARF_VERSION, ADDRESS_SIZE, DW_LNCT_path}
use Rattle.dw_model.specs.declared.dwarf.TheConstants.{DW_LNCT_directory_index}
use Rattle.dw_model.specs.Results.{◌>>=◌, refuse_if, or_fault}
use Rattle.dw_model.specs.Reading.{Place, start, number_at, bytes_at}
use Rattle.dw_model.specs.InitialLength.{offset_size, InitialLength, of_length, reserved, initial_length}
use Rattle.dw_model.specs.Leb.{uleb_at}
use Rattle.dw_model.specs.Form.{Value, value_at}
use Rattle.dw_model.specs.Form as values
use Rattle.dw_model.specs.Text.{Tables, Bases, text}
use Rattle.dw_model.specs.Faults.{Bad, bad}

-- a directory or a file: its path, where that can be read, and the number of its directory
pub record LineEntry : Type 0 where
  pub path : Option (List ℕ)
  pub directory : ℕ

-- the fields of a header that are used, and the program after it
pub record LineHeader : Type 0 where
  pub minimum_instruction_length : ℕ
  pub line_base : ℤ
  pub line_range : ℕ
  pub opcode_base : ℕ
  pub standard_opcode_lengths : List ℕ
  pub directories : List LineEntry
  pub files : List LineEntry
  pub program : List ℕ

-- ---- lists of directories and files (section 6.2.4.1)

-- what is in each entry of a list: content types with their forms
abbrev pub Format : Type 0
Format = ℕ × ℕ

unfoldable pub formats_at : ℕ → Place → Result (List Format × Place) Bad
formats_at zero p = Ok ([], p)
formats_at (suc count) p = do
  content ← or_fault bad (uleb_at p)
  form ← or_fault bad (uleb_at content.1)
  others ← formats_at count form.1
  Ok ((content.0, form.0) ∷ others.0, others.1)

-- a value of each format, with its content type
unfoldable pub contents_at : ℕ → List Format → Place → Result (List (ℕ × Value) × Place) Bad
contents_at size [] p = Ok ([], p)
contents_at size (format ∷ formats) p = do
  value ← or_fault bad (value_at size format.1 None p)
  others ← contents_at size formats value.1
  Ok ((format.0, value.0) ∷ others.0, others.1)

abbrev pub as_directory : Value → ℕ
as_directory (values.unsigned n) = n
as_directory _ = 0

-- the first path and the first directory index of an entry; without an index that is an unsigned
-- number, it is 0 (own)
abbrev pub line_entry : Tables → Bases → List (ℕ × Value) → LineEntry
line_entry tables bases contents = record {
  path = option_and_then (text tables bases) (lookup (nat_eq DW_LNCT_path) contents);
  directory = option_map_or as_directory (lookup (nat_eq DW_LNCT_directory_index) contents) 0;
}

unfoldable pub entries_at : Tables → Bases → ℕ → List Format → ℕ → Place → Result (List LineEntry × Place) Bad
entries_at tables bases size formats zero p = Ok ([], p)
entries_at tables bases size formats (suc count) p = do
  contents ← contents_at size formats p
  others ← entries_at tables bases size formats count contents.1
  Ok (line_entry tables bases contents.0 ∷ others.0, others.1)

-- a list: the number of formats, the formats, the number of entries, the entries; more entries than
-- bytes are left are bad (own)
unfoldable pub entry_list : Tables → Bases → ℕ → Place → Result (List LineEntry × Place) Bad
entry_list tables bases size p = do
  format_count ← ok_or (number_at 1 p) bad
  formats ← formats_at format_count.0 format_count.1
  count ← or_fault bad (uleb_at formats.1)
  _ ← refuse_if (nat_lt (length count.1.left) count.0) bad
  entries_at tables bases size formats.0 count.0 count.1

-- ---- the header

-- the fields after header_length; `program` is what is after the header
unfoldable pub fields_at : Tables → Bases → ℕ → List ℕ → Place → Result LineHeader Bad
fields_at tables bases size program p = do
  minimum_instruction_length ← ok_or (number_at 1 p) bad
  maximum_operations_per_instruction ← ok_or (number_at 1 minimum_instruction_length.1) bad
  default_is_stmt ← ok_or (number_at 1 maximum_operations_per_instruction.1) bad
  line_base ← ok_or (number_at 1 default_is_stmt.1) bad
  line_range ← ok_or (number_at 1 line_base.1) bad
  opcode_base ← ok_or (number_at 1 line_range.1) bad
  standard_opcode_lengths ← ok_or (bytes_at (opcode_base.0 - 1) opcode_base.1) bad
  _ ← refuse_if (not (maximum_operations_per_instruction.0 == 1)) bad
  _ ← refuse_if (line_range.0 == 0 || opcode_base.0 == 0) bad
  directories ← entry_list tables bases size standard_opcode_lengths.1
  files ← entry_list tables bases size directories.1
  Ok (record {
    minimum_instruction_length = minimum_instruction_length.0;
    line_base = twos_complement 1 line_base.0;
    line_range = line_range.0;
    opcode_base = opcode_base.0;
    standard_opcode_lengths = standard_opcode_lengths.0;
    directories = directories.0;
    files = files.0;
    program = program;
  })

-- the table whose bytes after its length are these
unfoldable pub table_behind : Tables → Bases → ℕ → Place → Result LineHeader Bad
table_behind tables bases size p = do
  version ← ok_or (number_at 2 p) bad
  address_size ← ok_or (number_at 1 version.1) bad
  segment_selector_size ← ok_or (number_at 1 address_size.1) bad
  header_length ← ok_or (number_at size segment_selector_size.1) bad
  header ← ok_or (bytes_at header_length.0 header_length.1) bad
  _ ← refuse_if (not (version.0 == DWARF_VERSION)) bad
  _ ← refuse_if (not (address_size.0 == ADDRESS_SIZE)) bad
  fields_at tables bases size header.1.left (start header.0)

-- a length and the size of the offsets after it
abbrev pub length_of : InitialLength → Result (ℕ × ℕ) Bad
length_of (of_length n width) = Ok (n, offset_size width)
length_of reserved = Err bad

-- the header of the table at an offset of .debug_line
unfoldable pub line_header : Tables → Bases → List ℕ → ℕ → Result LineHeader Bad
line_header tables bases section offset = do
  unit_length ← ok_or (initial_length (record { at = offset; left = drop offset section })) bad
  len ← length_of unit_length.0
  table ← ok_or (bytes_at len.0 unit_length.1) bad
  table_behind tables bases len.1 (start table.0)
