-- Entries of range lists as the definitions have them.
use Rattle.dw_model.specs.Ranges as model
use Rattle.dw_ranges.specs.declared.range_entry.RangeEntry.{RangeEntry}
use Rattle.dw_ranges.specs.declared.range_entry.RangeEntry.TheVariants.{BaseAddressx, StartxEndx, StartxLength}
use Rattle.dw_ranges.specs.declared.range_entry.RangeEntry.TheVariants.{OffsetPair, BaseAddress, StartEnd, StartLength}

abbrev pub range_entry_shown : RangeEntry → model.RangeEntry
range_entry_shown (BaseAddressx index) = model.base_addressx index
range_entry_shown (StartxEndx start end) = model.startx_endx start end
range_entry_shown (StartxLength start length) = model.startx_length start length
range_entry_shown (OffsetPair start end) = model.offset_pair start end
range_entry_shown (BaseAddress address) = model.base_address address
range_entry_shown (StartEnd start end) = model.start_end start end
range_entry_shown (StartLength start length) = model.start_length start length
