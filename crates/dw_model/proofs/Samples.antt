-- Sample files, built as a linker lays them out, for the rows that the definitions are held
-- against.
use Rattle.std.specs.Prelude.{ℕ, zero, suc, ◌+◌, ◌*◌, ◌-◌, List, [], ◌∷◌, ◌++◌, length, take, drop, replicate, Option, Some, None, codes, nat_lt, ◌==◌, if◌then◌else◌, flat_map}
use Rattle.byteorder.specs.Endian.{little_bytes}

-- the value of a hexadecimal digit
digit : ℕ → ℕ
digit c = if nat_lt c 58 then c - 48 else c - 87

-- the bytes that pairs of hexadecimal digits spell, whatever blanks are between them
from_hex : Option ℕ → List ℕ → List ℕ
from_hex high [] = []
from_hex None (c ∷ text) = if c == 32 then from_hex None text else from_hex (Some c) text
from_hex (Some high) (c ∷ text) = (16 * digit high + digit c) ∷ from_hex None text

unfoldable pub hex : List ℕ → List ℕ
unfolding from_hex digit
hex text = from_hex None text

-- a section of a sample: its name and its bytes
pub record Part : Type 0 where
  pub name : List ℕ
  pub bytes : List ℕ

-- a section header of Elf64_Shdr
abbrev shdr : ℕ → ℕ → ℕ → ℕ → List ℕ
shdr name kind offset size =
    little_bytes 4 name ++ little_bytes 4 kind ++ replicate 16 0 ++ little_bytes 8 offset ++ little_bytes 8 size
    ++ replicate 8 0 ++ little_bytes 8 1 ++ replicate 8 0

-- the sections' headers, from the places of the first one's bytes and of its name
headers : ℕ → ℕ → List Part → List ℕ
headers offset name [] = []
headers offset name (part ∷ parts) =
    shdr name 1 offset (length part.bytes) ++ headers (offset + length part.bytes) (name + length part.name + 1) parts

abbrev name_text : Part → List ℕ
name_text part = part.name ++ 0 ∷ []

-- Elf64_Ehdr of an executable
abbrev ehdr : ℕ → ℕ → ℕ → ℕ → List ℕ
ehdr shoff shentsize shnum shstrndx =
    hex (codes "7f 45 4c 46 02 01 01") ++ replicate 9 0 ++ little_bytes 2 2 ++ little_bytes 2 62 ++ little_bytes 4 1
    ++ replicate 16 0 ++ little_bytes 8 shoff ++ replicate 4 0 ++ little_bytes 2 64 ++ replicate 4 0
    ++ little_bytes 2 shentsize ++ little_bytes 2 shnum ++ little_bytes 2 shstrndx

-- A file of these sections: the header, the sections' bytes, their names, and the section header
-- table, without gaps.
unfoldable pub elf : List Part → List ℕ
unfolding headers hex
elf parts =
    let body = flat_map (λ part. part.bytes) parts in
    let names = (0 ∷ []) ++ flat_map name_text parts ++ codes ".shstrtab" ++ 0 ∷ [] in
    let names_at = 64 + length body in
    ehdr (names_at + length names) 64 (length parts + 2) (length parts + 1)
    ++ body
    ++ names
    ++ replicate 64 0 ++ headers 64 1 parts ++ shdr (length names - 10) 3 names_at (length names)

-- the smallest file that is accepted: a header alone
unfoldable pub smallest : List ℕ
unfolding hex
smallest = ehdr 0 0 0 0

-- the bytes with others put in at a place
abbrev pub poke : List ℕ → ℕ → List ℕ → List ℕ
poke bytes at new = take at bytes ++ new ++ drop (at + length new) bytes

-- the fields of a line table behind its header_length: the directory /w, and the files z.c and a.c in
-- it
unfoldable pub table_fields : List ℕ
unfolding hex
table_fields =
    hex (codes "01 01 01 fb 0e 0d 00 01 01 01 01 00 00 00 01 00 00 01")
    ++ hex (codes "01 01 08 01 2f 77 00 02 01 08 02 0b 02 7a 2e 63 00 00 61 2e 63 00 00")

-- a line table of version 5 with these fields and a program
unfoldable pub line_table : List ℕ → List ℕ
unfolding hex table_fields
line_table program = little_bytes 4 (49 + length program) ++ hex (codes "05 00 08 00 29 00 00 00") ++ table_fields ++ program

-- the same in the 64-bit format
unfoldable pub line_table_64 : List ℕ → List ℕ
unfolding hex table_fields
line_table_64 program =
    hex (codes "ff ff ff ff") ++ little_bytes 8 (53 + length program) ++ hex (codes "05 00 08 00 29 00 00 00 00 00 00 00")
    ++ table_fields ++ program

-- Three functions, two of them inlined, with the abbreviations and entries of a compile unit and a
-- partial unit.
unfoldable pub inlined_abbrev : List ℕ
unfolding hex
inlined_abbrev =
    hex (codes "01 11 01 10 17 11 01 12 06 00 00")
    ++ hex (codes "02 2e 01 03 08 11 01 12 06 00 00")
    ++ hex (codes "03 2e 00 03 08 00 00")
    ++ hex (codes "04 0b 01 00 00")
    ++ hex (codes "05 1d 01 31 10 11 01 12 0b 58 0b 59 0b 57 0b 00 00")
    ++ hex (codes "06 1d 00 31 13 11 01 12 0b 58 0b 59 0b 00 00")
    ++ hex (codes "07 3c 01 00 00")
    ++ hex (codes "00")

unfoldable pub inlined_info : List ℕ
unfolding hex
inlined_info =
    hex (codes "57 00 00 00 05 00 01 08 00 00 00 00")
    ++ hex (codes "01 00 00 00 00 00 10 40 00 00 00 00 00 0e 00 00 00")
    ++ hex (codes "03 6c 65 61 66 00")
    ++ hex (codes "02 6d 61 69 6e 00 00 10 40 00 00 00 00 00 0e 00 00 00")
    ++ hex (codes "04")
    ++ hex (codes "05 68 00 00 00 02 10 40 00 00 00 00 00 06 00 14 07")
    ++ hex (codes "06 1d 00 00 00 04 10 40 00 00 00 00 00 02 01 1e")
    ++ hex (codes "00 00 00 00")
    ++ hex (codes "0f 00 00 00 05 00 03 08 00 00 00 00")
    ++ hex (codes "07")
    ++ hex (codes "03 6d 69 64 00")
    ++ hex (codes "00")

unfoldable pub inlined_line : List ℕ
unfolding line_table
inlined_line = line_table (hex (codes "00 09 02 00 10 40 00 00 00 00 00 14 4b 02 0a 00 01 01"))

-- a file of the three sections that the sample with inlined functions has
unfoldable pub three_sections : List ℕ → List ℕ → List ℕ → List ℕ
unfolding elf
three_sections info abbrevs line =
    elf (
    record { name = codes ".debug_info"; bytes = info }
    ∷ record { name = codes ".debug_abbrev"; bytes = abbrevs }
    ∷ record { name = codes ".debug_line"; bytes = line }
    ∷ []
    )

unfoldable pub inlined : List ℕ
unfolding three_sections inlined_info inlined_abbrev inlined_line
inlined = three_sections inlined_info inlined_abbrev inlined_line

-- the same with a unit of version 4 before its units
unfoldable pub mixed_versions : List ℕ
unfolding three_sections inlined_info inlined_abbrev inlined_line
mixed_versions = three_sections (hex (codes "07 00 00 00 04 00 00 00 00 00 08") ++ inlined_info) inlined_abbrev inlined_line

-- the same with other bytes in .debug_info
unfoldable pub with_info : List ℕ → List ℕ
unfolding three_sections inlined_abbrev inlined_line
with_info info = three_sections info inlined_abbrev inlined_line

-- a compile unit over [0x500000, 0x500004) without a line table, with the abbreviations of the
-- sample
unfoldable pub bare_unit : List ℕ
unfolding hex
bare_unit = hex (codes "1a 00 00 00 05 00 01 08 00 00 00 00 01 00 00 00 00 00 00 50 00 00 00 00 00 04 00 00 00 00")

-- the sample and then that unit
unfoldable pub with_bare_unit : List ℕ
unfolding with_info inlined_info bare_unit
with_bare_unit = with_info (inlined_info ++ bare_unit)

-- ---- two units that cover the same addresses

-- [0x1000, 0x3000), without lines
unfoldable pub wide_unit : List ℕ
unfolding hex
wide_unit = hex (codes "15 00 00 00 05 00 01 08 00 00 00 00 01 00 10 00 00 00 00 00 00 00 20 00 00")

-- [0x2000, 0x2010), with lines
unfoldable pub narrow_unit : List ℕ
unfolding hex
narrow_unit = hex (codes "19 00 00 00 05 00 01 08 00 00 00 00 02 00 00 00 00 00 20 00 00 00 00 00 00 10 00 00 00")

-- the same units in the 64-bit format
unfoldable pub wide_unit_64 : List ℕ
unfolding hex
wide_unit_64 = hex (codes "ff ff ff ff 19 00 00 00 00 00 00 00 05 00 01 08 00 00 00 00 00 00 00 00 01 00 10 00 00 00 00 00 00 00 20 00 00")

unfoldable pub narrow_unit_64 : List ℕ
unfolding hex
narrow_unit_64 =
    hex (codes "ff ff ff ff 21 00 00 00 00 00 00 00 05 00 01 08 00 00 00 00 00 00 00 00 02 00 00 00 00 00 00 00 00 00 20 00 00 00 00 00 00 10 00 00 00")

-- a file of such units with this line table
unfoldable pub overlapping_with : (table info : List ℕ) → List ℕ
unfolding three_sections hex
overlapping_with table info = three_sections info (hex (codes "01 11 00 11 01 12 06 00 00 02 11 00 10 17 11 01 12 06 00 00 00")) table

-- the program of its lines
unfoldable pub narrow_lines : List ℕ
unfolding hex
narrow_lines = hex (codes "00 09 02 00 20 00 00 00 00 00 00 14 02 10 00 01 01")

unfoldable pub overlapping : List ℕ → List ℕ
unfolding overlapping_with line_table narrow_lines
overlapping info = overlapping_with (line_table narrow_lines) info

-- ---- deep trees, and names far away

-- a unit of this length, whose first entry is followed by n lexical blocks, each in the one before
-- it
unfoldable pub deep : (length n : ℕ) → List ℕ
unfolding hex with_info
deep length n =
    with_info (little_bytes 4 length ++ hex (codes "05 00 01 08 00 00 00 00")
    ++ hex (codes "01 00 00 00 00 00 10 40 00 00 00 00 00 0e 00 00 00") ++ replicate n 4)

-- entries with a reference each, to offsets that rise by 5
references : ℕ → ℕ → List ℕ
references zero at = []
references (suc n) at = (3 ∷ little_bytes 4 at) ++ references n (at + 5)

-- A function over [0x1000, 0x1010) whose only name is n references away, n at least 1.
unfoldable pub far_name : ℕ → List ℕ
unfolding hex references three_sections
far_name n =
    let body = hex (codes "05 00 01 08 00 00 00 00")
    ++ hex (codes "01 00 10 00 00 00 00 00 00 10 00 00 00")
    ++ (2 ∷ little_bytes 4 42) ++ hex (codes "00 10 00 00 00 00 00 00 10 00 00 00")
    ++ references (n - 1) 47
    ++ (4 ∷ codes "deep") ++ 0 ∷ 0 ∷ [] in
    three_sections (little_bytes 4 (length body) ++ body)
    (hex (codes "01 11 01 11 01 12 06 00 00 02 2e 00 31 13 11 01 12 06 00 00 03 2e 00 31 13 00 00 04 2e 00 03 08 00 00 00")) []

-- ---- directories and files

abbrev zero_ended : List ℕ → List ℕ
zero_ended text = text ++ 0 ∷ []

-- a line table of version 5 with this header, from minimum_instruction_length on, and a program
unfoldable pub line_table_of : (header program : List ℕ) → List ℕ
unfolding hex
line_table_of header program =
    let body = hex (codes "05 00 08 00") ++ little_bytes 4 (length header) ++ header ++ program in
    little_bytes 4 (length body) ++ body

-- one with these directories, and files with the numbers of their directories
unfoldable pub path_table : List (List ℕ) → List (List ℕ × ℕ) → List ℕ
unfolding hex line_table_of
path_table directories files =
    line_table_of (hex (codes "01 01 01 fb 0e 0d 00 01 01 01 01 00 00 00 01 00 00 01")
    ++ hex (codes "01 01 08") ++ length directories ∷ flat_map zero_ended directories
    ++ hex (codes "02 01 08 02 0b") ++ length files ∷ flat_map (λ file. zero_ended file.0 ++ file.1 ∷ []) files) []
