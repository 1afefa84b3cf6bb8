-- Where a function was called that was inlined (DWARF 5, section 3.3.8.2).
use Rattle.std.specs.Prelude.{None}
use Rattle.dw_model.specs.declared.dwarf.TheConstants.{DW_AT_call_file, DW_AT_call_line, DW_AT_call_column}
use Rattle.dw_model.specs.Entry.{Entry, number_of}
use Rattle.dw_frames.specs.declared.function.Call.{Call}

-- what an entry says of its call
abbrev pub call_of : Entry → Call
call_of entry = record {
  file = number_of DW_AT_call_file entry;
  line = number_of DW_AT_call_line entry;
  column = number_of DW_AT_call_column entry;
}

-- nothing is said
abbrev pub no_call : Call
no_call = record { file = None; line = None; column = None }
