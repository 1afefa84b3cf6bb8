-- What the parts of a file's layout that code reads mean.
use Rattle.std.specs.Prelude.{ℕ, List, Option, option_map}
use Rattle.dw_model.specs.Reading.{start, text_at}
use Rattle.dw_model.specs.Elf as model
use Rattle.dw_elf.specs.declared.layout.FileHeader.{FileHeader}
use Rattle.dw_elf.specs.declared.layout.SectionHeader.{SectionHeader}
use Rattle.dw_elf.specs.declared.layout.Table.{Table}

abbrev pub file_header_of : FileHeader → model.FileHeader
file_header_of h = record {
  magic = h.magic.now;
  class = h.class;
  encoding = h.encoding;
  e_type = h.e_type;
  e_shoff = h.e_shoff;
  e_shentsize = h.e_shentsize;
  e_shnum = h.e_shnum;
  e_shstrndx = h.e_shstrndx;
}

abbrev pub section_header_of : SectionHeader → model.SectionHeader
section_header_of h = record {
  sh_name = h.sh_name;
  sh_type = h.sh_type;
  sh_flags = h.sh_flags;
  sh_offset = h.sh_offset;
  sh_size = h.sh_size;
  sh_link = h.sh_link;
}

abbrev pub table_shown : Table → model.Table
table_shown t = record { headers = model.section_headers t.count (start t.headers.now); names = t.names.now }

-- the text with which some bytes begin, where a zero byte ends one
abbrev pub first_text : List ℕ → Option (List ℕ)
first_text bytes = option_map (λ text. text.0) (text_at (start bytes))
