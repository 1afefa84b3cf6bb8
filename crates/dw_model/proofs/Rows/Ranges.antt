-- Ranges of addresses.
use Rattle.std.specs.Prelude.{◌≡◌, ℕ, false, List, ◌∷◌, [], negsuc, Some, None, Result, Ok, Err, codes, refl}
use Rattle.dw_model.specs.Form as values
use Rattle.dw_model.specs.Entry.{Entry, Attribute}
use Rattle.dw_model.specs.Text.{Tables, Bases}
use Rattle.dw_model.specs.Faults.{Bad, bad}
use Rattle.dw_model.specs.Form.{Value}
use Rattle.dw_model.specs.Ranges.{Range, range, ranges_of, covers}
use Rattle.dw_model.proofs.Samples.{hex}
use Rattle.dw_model.proofs.OnSamples.{on_samples}

-- a section of range lists, beside two addresses after eight bytes
abbrev tables : List ℕ → Tables
tables rnglists = record {
  str = [];
  line_str = [];
  str_offsets = [];
  addr = hex (codes "00 00 00 00 00 00 00 00 00 10 00 00 00 00 00 00 00 20 00 00 00 00 00 00");
  rnglists = rnglists;
}

abbrev bases : Bases
bases = record { str_offsets = None; addr = Some 8; rnglists = Some 4; offset_size = 4 }

abbrev pair : ℕ → Value → Attribute
pair name value = record { name = name; value = value }

abbrev entry : List Attribute → Entry
entry attributes = record { offset = 0; tag = 0x2e; children = false; attributes = attributes }

-- the ranges of the list that these bytes are, in a unit that begins at an address
abbrev listed : Value → List ℕ → Result (List Range) Bad
listed low list = ranges_of (tables list) bases (Some (entry (pair 0x11 low ∷ []))) (entry (pair 0x55 (values.section_offset 0) ∷ []))

-- the ranges of an entry with these attributes
abbrev of_attributes : List Attribute → Result (List Range) Bad
of_attributes attributes = ranges_of (tables []) bases None (entry attributes)

bases_and_pairs : listed (values.address 0x400000) (hex (codes "01 00 04 10 20 03 01 08 04 30 30 07 ff ff ff ff ff ff ff ff 08 00")) ≡ Ok (range 0x1010 0x1020 ∷ range 0x2000 0x2008 ∷ [])
bases_and_pairs = unfold on_samples in refl

list_without_an_end : listed (values.address 0x400000) (hex (codes "01 00 04 10 20 03 01 08 04 30 30 07 ff ff ff ff ff ff ff ff 08")) ≡ Err bad
list_without_an_end = unfold on_samples in refl

end_past_64_bits : listed (values.address 0x400000) (hex (codes "07 f0 ff ff ff ff ff ff ff 10 00")) ≡ Ok []
end_past_64_bits = unfold on_samples in refl

end_at_the_last_address : listed (values.address 0x400000) (hex (codes "07 f0 ff ff ff ff ff ff ff 0f 00")) ≡ Ok (range 0xfffffffffffffff0 0xffffffffffffffff ∷ [])
end_at_the_last_address = unfold on_samples in refl

last_address_not_covered : covers 0xffffffffffffffff (range 0xfffffffffffffff0 0xffffffffffffffff ∷ []) ≡ false
last_address_not_covered = unfold on_samples in refl

pair_from_the_first_entry : listed (values.address 0x400000) (hex (codes "04 10 20 00")) ≡ Ok (range 0x400010 0x400020 ∷ [])
pair_from_the_first_entry = unfold on_samples in refl

pair_from_0 : ranges_of (tables (hex (codes "04 10 20 00"))) bases (Some (entry [])) (entry (pair 0x55 (values.section_offset 0) ∷ [])) ≡ Ok (range 0x10 0x20 ∷ [])
pair_from_0 = unfold on_samples in refl

pair_from_an_unknown_base : listed (values.address_index 9) (hex (codes "04 10 20 00")) ≡ Err bad
pair_from_an_unknown_base = unfold on_samples in refl

unknown_base_not_used : listed (values.address_index 9) (hex (codes "05 00 10 00 00 00 00 00 00 04 10 20 00")) ≡ Ok (range 0x1010 0x1020 ∷ [])
unknown_base_not_used = unfold on_samples in refl

between_indexes : listed (values.address 0x400000) (hex (codes "02 00 01 00")) ≡ Ok (range 0x1000 0x2000 ∷ [])
between_indexes = unfold on_samples in refl

index_past_the_end : listed (values.address 0x400000) (hex (codes "02 00 02 00")) ≡ Err bad
index_past_the_end = unfold on_samples in refl

between_addresses : listed (values.address 0x400000) (hex (codes "06 01 00 00 00 00 00 00 00 03 00 00 00 00 00 00 00 00")) ≡ Ok (range 1 3 ∷ [])
between_addresses = unfold on_samples in refl

empty_ranges_dropped : listed (values.address 0x400000) (hex (codes "06 03 00 00 00 00 00 00 00 03 00 00 00 00 00 00 00 04 05 04 00")) ≡ Ok []
empty_ranges_dropped = unfold on_samples in refl

unknown_entry : listed (values.address 0x400000) (hex (codes "08 00")) ≡ Err bad
unknown_entry = unfold on_samples in refl

wide_operand : listed (values.address 0x400000) (hex (codes "04 ff ff ff ff ff ff ff ff ff 02 00 00")) ≡ Err bad
wide_operand = unfold on_samples in refl

list_past_the_section : ranges_of (tables []) bases None (entry (pair 0x55 (values.section_offset 5) ∷ [])) ≡ Err bad
list_past_the_section = unfold on_samples in refl

list_by_index : ranges_of (tables (hex (codes "00 00 00 00 08 00 00 00 05 00 00 00 06 01 00 00 00 00 00 00 00 03 00 00 00 00 00 00 00 00"))) bases None (entry (pair 0x55 (values.range_index 0) ∷ [])) ≡ Ok (range 1 3 ∷ [])
list_by_index = unfold on_samples in refl

list_by_index_past_the_end : ranges_of (tables (hex (codes "00 00 00 00 08 00 00 00"))) bases None (entry (pair 0x55 (values.range_index 1) ∷ [])) ≡ Err bad
list_by_index_past_the_end = unfold on_samples in refl

list_of_another_class : ranges_of (tables []) bases None (entry (pair 0x55 (values.unsigned 5) ∷ pair 0x11 (values.address 1) ∷ pair 0x12 (values.unsigned 4) ∷ [])) ≡ Ok (range 1 5 ∷ [])
list_of_another_class = unfold on_samples in refl

constant_high_pc : of_attributes (pair 0x11 (values.address 0x1000) ∷ pair 0x12 (values.unsigned 0x10) ∷ []) ≡ Ok (range 0x1000 0x1010 ∷ [])
constant_high_pc = unfold on_samples in refl

address_high_pc : of_attributes (pair 0x11 (values.address 0x1000) ∷ pair 0x12 (values.address_index 1) ∷ []) ≡ Ok (range 0x1000 0x2000 ∷ [])
address_high_pc = unfold on_samples in refl

negative_high_pc : of_attributes (pair 0x11 (values.address 0x1000) ∷ pair 0x12 (values.signed (negsuc 0)) ∷ []) ≡ Ok []
negative_high_pc = unfold on_samples in refl

low_pc_alone : of_attributes (pair 0x11 (values.address 0x1000) ∷ []) ≡ Ok []
low_pc_alone = unfold on_samples in refl

high_pc_alone : of_attributes (pair 0x12 (values.unsigned 0x10) ∷ []) ≡ Ok []
high_pc_alone = unfold on_samples in refl

unknown_low_pc_alone : of_attributes (pair 0x11 (values.address_index 9) ∷ []) ≡ Ok []
unknown_low_pc_alone = unfold on_samples in refl

unknown_low_pc : of_attributes (pair 0x11 (values.address_index 9) ∷ pair 0x12 (values.unsigned 4) ∷ []) ≡ Err bad
unknown_low_pc = unfold on_samples in refl

dropped_by_the_linker : of_attributes (pair 0x11 (values.address 0xffffffffffffffff) ∷ pair 0x12 (values.unsigned 4) ∷ []) ≡ Ok []
dropped_by_the_linker = unfold on_samples in refl

from_0 : of_attributes (pair 0x11 (values.address 0) ∷ pair 0x12 (values.unsigned 4) ∷ []) ≡ Ok (range 0 4 ∷ [])
from_0 = unfold on_samples in refl
