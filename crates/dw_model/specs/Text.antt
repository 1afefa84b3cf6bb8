-- Texts and addresses to which values lead (DWARF 5, sections 7.5.5, 7.26 and 7.27).
use Rattle.std.specs.Prelude.{ℕ, ◌+◌, ◌*◌, List, drop, Option, Some, None, option_map, option_and_then}
use Rattle.dw_model.specs.declared.dwarf.TheConstants.{ADDRESS_SIZE, DW_AT_str_offsets_base, DW_AT_addr_base}
use Rattle.dw_model.specs.declared.dwarf.TheConstants.{DW_AT_rnglists_base}
use Rattle.dw_model.specs.Options.{◌>>=◌}
use Rattle.dw_model.specs.Reading.{start, number_at, text_at}
use Rattle.dw_model.specs.Form.{Value}
use Rattle.dw_model.specs.Form as values
use Rattle.dw_model.specs.Entry.{Entry, attribute, as_section_offset}

-- the sections to which values lead
pub record Tables : Type 0 where
  pub str : List ℕ
  pub line_str : List ℕ
  pub str_offsets : List ℕ
  pub addr : List ℕ
  pub rnglists : List ℕ

-- Where a unit's entries begin in the sections that it shares with other units, and the size of its
-- offsets. The headers of these sections aren't read (own).
pub record Bases : Type 0 where
  pub str_offsets : Option ℕ
  pub addr : Option ℕ
  pub rnglists : Option ℕ
  pub offset_size : ℕ

-- the offset that an attribute of a unit's first entry is
abbrev pub base_in : Option Entry → ℕ → Option ℕ
base_in root name = option_and_then as_section_offset (option_and_then (attribute name) root)

-- the bases that a unit's first entry names; without that entry there is none
abbrev pub bases_in : ℕ → Option Entry → Bases
bases_in size root = record {
  str_offsets = base_in root DW_AT_str_offsets_base;
  addr = base_in root DW_AT_addr_base;
  rnglists = base_in root DW_AT_rnglists_base;
  offset_size = size;
}

-- the number of n bytes at an offset of a section, where the section has it
abbrev pub number_in : List ℕ → (offset n : ℕ) → Option ℕ
number_in section offset n = option_map (λ found. found.0) (number_at n (start (drop offset section)))

-- the text at an offset of a section, where a zero byte ends it
abbrev pub text_in : List ℕ → ℕ → Option (List ℕ)
text_in section offset = option_map (λ found. found.0) (text_at (start (drop offset section)))

-- The text to which a value leads: itself, the text at its offset, or by an index the text at the
-- offset that is there.
unfoldable pub text : Tables → Bases → Value → Option (List ℕ)
text tables bases (values.inline bytes) = Some bytes
text tables bases (values.str offset) = text_in tables.str offset
text tables bases (values.line_str offset) = text_in tables.line_str offset
text tables bases (values.str_index i) = do
  base ← bases.str_offsets
  offset ← number_in tables.str_offsets (base + bases.offset_size * i) bases.offset_size
  text_in tables.str offset
text tables bases _ = None

-- the address to which a value leads: itself, or by an index the one that is there
unfoldable pub address : Tables → Bases → Value → Option ℕ
address tables bases (values.address n) = Some n
address tables bases (values.address_index i) = do
  base ← bases.addr
  number_in tables.addr (base + ADDRESS_SIZE * i) ADDRESS_SIZE
address tables bases _ = None
