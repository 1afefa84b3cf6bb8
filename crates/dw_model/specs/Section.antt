-- The sections of a file, and the conditions under which an ELF file is refused.
use Rattle.std.specs.Prelude.{◌&&◌, ◌++◌, drop, bit_and, Bool, true, not, List, [], ◌∷◌, Option, Result, Ok, ok_or}
use Rattle.std.specs.Prelude.{is_some, unwrap_or, option_and_then, find, bytes_eq, ◌==◌, if◌then◌else◌, codes}
use Rattle.std.specs.Option.{option_map_or}
use Rattle.std.specs.Result.{result_unwrap_or, result_err}
use Rattle.std.specs.Prelude.{ℕ}
use Rattle.dw_model.specs.declared.elf.TheConstants.{ELFMAG, ELFCLASS64, ELFDATA2LSB, ET_REL, SHF_COMPRESSED}
use Rattle.dw_model.specs.Results.{◌>>=◌, refuse_if, refuse_found}
use Rattle.dw_model.specs.Faults.{Refusal, not_elf, not_elf64_little, relocatable, section_table, section_range}
use Rattle.dw_model.specs.Faults.{compressed}
use Rattle.dw_model.specs.Elf.{Table, no_sections, file_header, table_at, takes_nothing, header_named, contents}
use Rattle.dw_model.specs.Text.{Tables}

-- The table of a file of the kind that is read: an ELF64 file of little-endian numbers that is no
-- relocatable object. Without e_shoff there are no sections (section 3).
unfoldable pub table_of : List ℕ → Result Table Refusal
table_of file = do
  header ← ok_or (file_header file) not_elf
  _ ← refuse_if (not (bytes_eq header.magic ELFMAG)) not_elf
  _ ← refuse_if (not (header.class == ELFCLASS64)) not_elf64_little
  _ ← refuse_if (not (header.encoding == ELFDATA2LSB)) not_elf64_little
  _ ← refuse_if (header.e_type == ET_REL) relocatable
  if header.e_shoff == 0 then Ok no_sections else ok_or (table_at file header) section_table

-- the bytes that the first header of a name gives; none where there is no such header
unfoldable pub section_in : List ℕ → Table → List ℕ → List ℕ
section_in file table name = unwrap_or (option_and_then (contents file) (header_named name table)) []

unfoldable pub section : List ℕ → List ℕ → List ℕ
section file name = section_in file (result_unwrap_or (table_of file) no_sections) name

-- the sections of a file that are used
pub record Sections : Type 0 where
  pub info : List ℕ
  pub abbrevs : List ℕ
  pub line : List ℕ
  pub tables : Tables

abbrev pub sections : List ℕ → Sections
sections file = record {
  info = section file (codes ".debug_info");
  abbrevs = section file (codes ".debug_abbrev");
  line = section file (codes ".debug_line");
  tables = record {
    str = section file (codes ".debug_str");
    line_str = section file (codes ".debug_line_str");
    str_offsets = section file (codes ".debug_str_offsets");
    addr = section file (codes ".debug_addr");
    rnglists = section file (codes ".debug_rnglists");
  };
}

-- the sections that are used, in the order in which they are tested (own)
abbrev pub used_names : List (List ℕ)
used_names =
    codes ".debug_info" ∷ codes ".debug_abbrev" ∷ codes ".debug_line" ∷ codes ".debug_line_str"
    ∷ codes ".debug_str" ∷ codes ".debug_str_offsets" ∷ codes ".debug_addr" ∷ codes ".debug_rnglists" ∷ []

-- the first header of the name gives bytes that lie in the file, or there is none
unfoldable pub lies_in : List ℕ → Table → List ℕ → Bool
lies_in file table name = option_map_or (λ header. is_some (contents file header)) (header_named name table) true

-- the name of the same section, compressed in the older way: `.zdebug_..` instead of `.debug_..`
abbrev pub compressed_name : List ℕ → List ℕ
compressed_name name = codes ".z" ++ drop 1 name

-- A section is compressed where its bytes are, by SHF_COMPRESSED, or where only its older
-- compressed form is there.
unfoldable pub is_compressed : Table → List ℕ → Bool
is_compressed table name =
    option_map_or (λ header. not (bit_and header.sh_flags SHF_COMPRESSED == 0) && not (takes_nothing header))
    (header_named name table)
    (is_some (header_named (compressed_name name) table))

-- The table of a file that is accepted, or the first condition that it fails: those on its header
-- and its table, then that each used section lies in the file, and then that none of them is
-- compressed.
unfoldable pub accepted_table : List ℕ → Result Table Refusal
accepted_table file = do
  table ← table_of file
  _ ← refuse_found section_range (find (λ name. not (lies_in file table name)) used_names)
  _ ← refuse_found compressed (find (is_compressed table) used_names)
  Ok table

-- the first condition that the ELF file fails
abbrev pub elf_refusal : List ℕ → Option Refusal
elf_refusal file = result_err (accepted_table file)
