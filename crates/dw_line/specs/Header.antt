-- The header that was read, as the definitions have it.
use Rattle.std.specs.Prelude.{◌≡◌, ◌-◌, ℕ, List, [], Option, None, map, replicate, option_map, option_and_then}
use Rattle.std.specs.Prelude.{Result, Ok, Err, nat_eq}
use Rattle.std.specs.Option.{option_or, option_map_or}
use Rattle.std.specs.Map.{lookup}
use Rattle.dw_model.specs.declared.dwarf.TheConstants.{DW_LNCT_path, DW_LNCT_directory_index}
use Rattle.dw_model.specs.Results.{◌>>=◌}
use Rattle.dw_model.specs.Reading.{Place, bytes_at, made}
use Rattle.dw_model.specs.Faults.{Bad}
use Rattle.dw_model.specs.Form.{Value}
use Rattle.dw_model.specs.Text.{Tables, Bases, text}
use Rattle.dw_model.specs.LineHeader as model
use Rattle.dw_model.specs.LineHeader.{contents_at, line_entry}
use Rattle.dw_bytes.specs.Width.{size_of}
use Rattle.dw_forms.specs.Value.{value_shown}
use Rattle.dw_line.specs.declared.entries.Format.{Format}
use Rattle.dw_line.specs.declared.entries.Contents.{Contents}
use Rattle.dw_line.specs.declared.entries.LineEntry.{LineEntry}
use Rattle.dw_line.specs.declared.entry_list.EntryList.{EntryList}
use Rattle.dw_line.specs.declared.entry_list.LongList.{LongList}
use Rattle.dw_line.specs.declared.entry_list.EntryList.TheVariants.{Each, Long, Same}
use Rattle.dw_line.specs.declared.header.Header.{Header}

abbrev pub format_shown : Format → model.Format
format_shown format = (format.content, format.form)

-- the values of an entry that are used
pub record Used : Type 0 where
  pub path : Option Value
  pub directory : Option Value

abbrev pub contents_shown : Contents → Used
contents_shown contents = record {
  path = option_map value_shown contents.path;
  directory = option_map value_shown contents.directory;
}

-- those that were found before, else the first of the contents
abbrev pub used_of : Used → List (ℕ × Value) → Used
used_of found contents = record {
  path = option_or found.path (lookup (nat_eq DW_LNCT_path) contents);
  directory = option_or found.directory (lookup (nat_eq DW_LNCT_directory_index) contents);
}

abbrev pub used_at : Used → Result (List (ℕ × Value) × Place) Bad → Result (Used × Place) Bad
used_at found read = read >>= λ contents. Ok (used_of found contents.0, contents.1)

-- an entry, whose path is the text to which its value leads
abbrev pub entry_shown : Tables → Bases → LineEntry → model.LineEntry
entry_shown tables bases entry = record {
  path = option_and_then (text tables bases) (option_map value_shown entry.path);
  directory = entry.directory;
}

-- where reading goes, and its fault
abbrev pub place_behind : {A : Type 0} → Result (A × Place) Bad → Result (Unit {0} × Place) Bad
place_behind read = made (λ _. tt) read

-- the place with so many bytes before it, if there are so many from another on
abbrev pub placed : Place → ℕ → Place
placed begin at = option_map_or (λ taken. taken.1) (bytes_at (at - begin.at) begin) begin

-- the entry that was read; one without a path where it can't be read
abbrev pub entry_read : Tables → Bases → Result (List (ℕ × Value) × Place) Bad → model.LineEntry
entry_read tables bases (Ok contents) = line_entry tables bases contents.0
entry_read tables bases (Err fault) = record { path = None; directory = 0 }

-- the entry at a place, where offsets have so many bytes
abbrev pub entry_in : Tables → Bases → ℕ → List model.Format → Place → model.LineEntry
entry_in tables bases size formats place = entry_read tables bases (contents_at size formats place)

-- the entries of a long list
abbrev pub long_list_shown : Tables → Bases → LongList → List model.LineEntry
long_list_shown tables bases list =
    map (λ at. entry_in tables bases (size_of list.width) (map format_shown list.formats.items) (placed list.begin at))
    list.places.items

-- the entries of a list
abbrev pub entries_shown : Tables → Bases → EntryList → List model.LineEntry
entries_shown tables bases (Each entries) = map (entry_shown tables bases) entries.items
entries_shown tables bases (Long list) = long_list_shown tables bases list
entries_shown tables bases (Same entry count) = replicate count (entry_shown tables bases entry)

-- the header as a unit with these texts sees it
abbrev pub header_in : Tables → Bases → Header → model.LineHeader
header_in tables bases header = record {
  minimum_instruction_length = header.minimum_instruction_length;
  line_base = header.line_base;
  line_range = header.line_range;
  opcode_base = header.opcode_base;
  standard_opcode_lengths = header.standard_opcode_lengths.now;
  directories = entries_shown tables bases header.directories;
  files = entries_shown tables bases header.files;
  program = header.program.now;
}

-- the header is that of the table at an offset, whichever unit names it
abbrev pub IsHeaderAt : List ℕ → ℕ → Header → Type 0
IsHeaderAt section offset header =
    (tables : Tables) (bases : Bases)
    → model.line_header tables bases section offset ≡ Ok (header_in tables bases header)

-- a header without its lists: its program's rows depend on nothing else
abbrev pub without_lists : model.LineHeader → model.LineHeader
without_lists header = record {
  minimum_instruction_length = header.minimum_instruction_length;
  line_base = header.line_base;
  line_range = header.line_range;
  opcode_base = header.opcode_base;
  standard_opcode_lengths = header.standard_opcode_lengths;
  directories = [];
  files = [];
  program = header.program;
}

-- what the program of a header runs by
abbrev pub header_shown : Header → model.LineHeader
header_shown header = record {
  minimum_instruction_length = header.minimum_instruction_length;
  line_base = header.line_base;
  line_range = header.line_range;
  opcode_base = header.opcode_base;
  standard_opcode_lengths = header.standard_opcode_lengths.now;
  directories = [];
  files = [];
  program = header.program.now;
}
