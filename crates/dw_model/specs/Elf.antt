-- The layout of an ELF64 file: its header, the section header table, and the names of sections
-- (ELF-64 Object File Format, version 1.5).
use Rattle.std.specs.Prelude.{ℕ, zero, suc, ◌+◌, ◌*◌, ◌||◌, Bool, List, [], ◌∷◌, length, take, drop, Option, Some, None}
use Rattle.std.specs.Prelude.{option_map, find, nat_le, ◌==◌, if◌then◌else◌, bytes_eq}
use Rattle.std.specs.Option.{option_eq, option_map_or}
use Rattle.dw_model.specs.declared.elf.TheConstants.{SHDR_SIZE, SHN_UNDEF, SHN_XINDEX, SHT_NOBITS}
use Rattle.dw_model.specs.Options.{◌>>=◌, only_if}
use Rattle.dw_model.specs.Reading.{Place, start, number_at, bytes_at, text_at}

-- the fields of the file header that are used (section 3, Elf64_Ehdr); the first three are in
-- e_ident
pub record FileHeader : Type 0 where
  pub magic : List ℕ
  pub class : ℕ
  pub encoding : ℕ
  pub e_type : ℕ
  pub e_shoff : ℕ
  pub e_shentsize : ℕ
  pub e_shnum : ℕ
  pub e_shstrndx : ℕ

-- each field of Elf64_Ehdr in its order; none where the file is shorter
unfoldable pub file_header : List ℕ → Option FileHeader
file_header file = do
  magic ← bytes_at 4 (start file)
  class ← number_at 1 magic.1
  encoding ← number_at 1 class.1
  rest_of_ident ← bytes_at 10 encoding.1
  e_type ← number_at 2 rest_of_ident.1
  e_machine ← number_at 2 e_type.1
  e_version ← number_at 4 e_machine.1
  e_entry ← number_at 8 e_version.1
  e_phoff ← number_at 8 e_entry.1
  e_shoff ← number_at 8 e_phoff.1
  e_flags ← number_at 4 e_shoff.1
  e_ehsize ← number_at 2 e_flags.1
  e_phentsize ← number_at 2 e_ehsize.1
  e_phnum ← number_at 2 e_phentsize.1
  e_shentsize ← number_at 2 e_phnum.1
  e_shnum ← number_at 2 e_shentsize.1
  e_shstrndx ← number_at 2 e_shnum.1
  Some (record {
    magic = magic.0;
    class = class.0;
    encoding = encoding.0;
    e_type = e_type.0;
    e_shoff = e_shoff.0;
    e_shentsize = e_shentsize.0;
    e_shnum = e_shnum.0;
    e_shstrndx = e_shstrndx.0;
  })

-- the fields of a section header that are used (section 4, Elf64_Shdr)
pub record SectionHeader : Type 0 where
  pub sh_name : ℕ
  pub sh_type : ℕ
  pub sh_flags : ℕ
  pub sh_offset : ℕ
  pub sh_size : ℕ
  pub sh_link : ℕ

-- each field of Elf64_Shdr in its order
unfoldable pub section_header_at : Place → Option (SectionHeader × Place)
section_header_at p = do
  sh_name ← number_at 4 p
  sh_type ← number_at 4 sh_name.1
  sh_flags ← number_at 8 sh_type.1
  sh_addr ← number_at 8 sh_flags.1
  sh_offset ← number_at 8 sh_addr.1
  sh_size ← number_at 8 sh_offset.1
  sh_link ← number_at 4 sh_size.1
  sh_info ← number_at 4 sh_link.1
  sh_addralign ← number_at 8 sh_info.1
  sh_entsize ← number_at 8 sh_addralign.1
  Some (
    record {
      sh_name = sh_name.0;
      sh_type = sh_type.0;
      sh_flags = sh_flags.0;
      sh_offset = sh_offset.0;
      sh_size = sh_size.0;
      sh_link = sh_link.0;
    },
    sh_entsize.1,
  )

-- the headers of a table, one after the other
unfoldable pub section_headers : ℕ → Place → List SectionHeader
section_headers zero p = []
section_headers (suc count) p =
    option_map_or (λ header. header.0 ∷ section_headers count header.1) (section_header_at p) []

-- the bytes of the file from an offset on, where they lie in the file
abbrev pub part : List ℕ → ℕ → ℕ → Option (List ℕ)
part file offset size = if nat_le (offset + size) (length file) then Some (take size (drop offset file)) else None

-- a section of the type SHT_NOBITS or of the size 0 takes no bytes of the file
abbrev pub takes_nothing : SectionHeader → Bool
takes_nothing header = header.sh_type == SHT_NOBITS || header.sh_size == 0

-- the bytes that a header gives, where they lie in the file
unfoldable pub contents : List ℕ → SectionHeader → Option (List ℕ)
contents file header =
    if takes_nothing header then Some [] else part file header.sh_offset header.sh_size

-- the section header table, and the bytes of the section that has the names
pub record Table : Type 0 where
  pub headers : List SectionHeader
  pub names : List ℕ

abbrev pub no_sections : Table
no_sections = record { headers = []; names = [] }

-- the names, from the section of this index; at SHN_UNDEF there is no such section and no name
-- (section 5)
unfoldable pub names_at : List ℕ → List ℕ → ℕ → Option (List ℕ)
names_at file table index =
    if index == SHN_UNDEF then Some [] else (do
      bytes ← part table (SHDR_SIZE * index) SHDR_SIZE
      header ← section_header_at (start bytes)
      contents file header.0)

-- The table that the file header names. Header 0 has the count where e_shnum is 0, and the index of
-- the names where e_shstrndx is SHN_XINDEX.
unfoldable pub table_at : List ℕ → FileHeader → Option Table
table_at file header = do
  _ ← only_if (header.e_shentsize == SHDR_SIZE)
  bytes ← part file header.e_shoff SHDR_SIZE
  first ← section_header_at (start bytes)
  let count = if header.e_shnum == 0 then first.0.sh_size else header.e_shnum
  if count == 0 then Some no_sections else (do
    table ← part file header.e_shoff (SHDR_SIZE * count)
    names ← names_at file table (if header.e_shstrndx == SHN_XINDEX then first.0.sh_link else header.e_shstrndx)
    Some (record { headers = section_headers count (start table); names = names }))

-- the name of a section: the text that begins at sh_name in the names, where there is one (section
-- 5)
unfoldable pub name_of : List ℕ → SectionHeader → Option (List ℕ)
name_of names header = option_map (λ text. text.0) (text_at (start (drop header.sh_name names)))

-- a header whose name can't be read has none
unfoldable pub has_name : List ℕ → List ℕ → SectionHeader → Bool
has_name name names header = option_eq bytes_eq (name_of names header) (Some name)

-- the first header of a name
unfoldable pub header_named : List ℕ → Table → Option SectionHeader
header_named name table = find (has_name name table.names) table.headers
