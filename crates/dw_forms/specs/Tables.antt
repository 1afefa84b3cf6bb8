-- The sections to which values lead, as the definitions have them.
use Rattle.dw_model.specs.Text as model
use Rattle.dw_bytes.specs.Width.{size_of}
use Rattle.dw_forms.specs.declared.tables.Tables.{Tables}
use Rattle.dw_forms.specs.declared.tables.Bases.{Bases}

abbrev pub tables_shown : Tables → model.Tables
tables_shown tables = record {
  str = tables.str.now;
  line_str = tables.line_str.now;
  str_offsets = tables.str_offsets.now;
  addr = tables.addr.now;
  rnglists = tables.rnglists.now;
}

abbrev pub bases_shown : Bases → model.Bases
bases_shown bases = record {
  str_offsets = bases.str_offsets;
  addr = bases.addr;
  rnglists = bases.rnglists;
  offset_size = size_of bases.width;
}
