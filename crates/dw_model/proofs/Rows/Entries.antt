-- Declarations, entries and attributes.
use Rattle.std.specs.Prelude.{◌≡◌, ℕ, Bool, true, false, List, ◌∷◌, [], ◌++◌, pos, negsuc, Option, Some, None, Result, Ok, Err, length, map, option_map, slice_get, codes, refl}
use Rattle.dw_model.specs.declared.dwarf.TheConstants as constants
use Rattle.dw_model.specs.Faults.{Fault, ends_early, too_wide, undeclared}
use Rattle.dw_model.specs.Results.{◌>>=◌}
use Rattle.dw_model.specs.Form as values
use Rattle.dw_model.specs.Form.{Value}
use Rattle.dw_model.specs.Abbrev.{Specification, abbreviations, declared}
use Rattle.dw_model.specs.Entry.{Entry, Attribute, attribute, number_of}
use Rattle.dw_model.specs.Section.{sections}
use Rattle.dw_model.specs.Unit.{compile, partial, skeleton, units}
use Rattle.dw_model.specs.Root.{entry}
use Rattle.dw_model.specs.Name.{holding}
use Rattle.dw_model.proofs.Samples.{hex, poke, inlined, inlined_info, inlined_abbrev, with_info, mixed_versions}
use Rattle.dw_model.proofs.OnSamples.{on_samples}

-- an attribute's pair
abbrev pair : ℕ → Value → Attribute
pair name value = record { name = name; value = value }

-- the entry at an offset of the n-th unit of a file, and the offset just past it
abbrev entry_in : List ℕ → ℕ → ℕ → Option (Result (Option Entry × ℕ) Fault)
entry_in file n offset =
    option_map (λ unit. entry (sections file) unit offset >>= λ found. Ok (found.0, found.1.at)) (slice_get (units (sections file).info) n)

abbrev without_constant : ℕ → ℕ → Specification
without_constant name form = record { name = name; form = form; constant = None }

abbrev with_attributes : List Attribute → Entry
with_attributes attributes = record { offset = 0; tag = 0x2e; children = false; attributes = attributes }

seven_declarations : (abbreviations inlined_abbrev 0 >>= λ found. Ok (map {B = ℕ × ℕ × Bool} (λ d. (d.code, d.tag, d.children)) found)) ≡ Ok ((1, 0x11, true) ∷ (2, 0x2e, true) ∷ (3, 0x2e, false) ∷ (4, 0x0b, true) ∷ (5, 0x1d, true) ∷ (6, 0x1d, false) ∷ (7, 0x3c, true) ∷ [])
seven_declarations = unfold on_samples in refl

a_declaration : (abbreviations inlined_abbrev 0 >>= λ found. Ok (declared found 6)) ≡ Ok (Some (record { code = 6; tag = 0x1d; children = false; specifications = without_constant 0x31 0x13 ∷ without_constant 0x11 0x01 ∷ without_constant 0x12 0x0b ∷ without_constant 0x58 0x0b ∷ without_constant 0x59 0x0b ∷ [] }))
a_declaration = unfold on_samples in refl

no_declaration : (abbreviations inlined_abbrev 0 >>= λ found. Ok (declared found 8)) ≡ Ok None
no_declaration = unfold on_samples in refl

-- the end of the section is an empty table, and what lies past it is none
empty_table : abbreviations inlined_abbrev 72 ≡ Ok []
empty_table = unfold on_samples in refl

table_past_the_end : abbreviations inlined_abbrev 73 ≡ Err ends_early
table_past_the_end = unfold on_samples in refl

table_ends_at_a_border : (abbreviations (hex (codes "01 0b 00 00 00")) 0 >>= λ found. Ok (length found)) ≡ Ok 1
table_ends_at_a_border = unfold on_samples in refl

table_cut_in_a_declaration : abbreviations (hex (codes "01 0b 00 00")) 0 ≡ Err ends_early
table_cut_in_a_declaration = unfold on_samples in refl

constant_in_the_declaration : abbreviations (hex (codes "01 34 02 03 21 7f 00 00 00")) 0 ≡ Ok (record { code = 1; tag = 0x34; children = true; specifications = record { name = 3; form = 0x21; constant = Some (negsuc 0) } ∷ [] } ∷ [])
constant_in_the_declaration = unfold on_samples in refl

first_of_two : (abbreviations (hex (codes "01 0b 00 00 00 01 2e 01 00 00 00")) 0 >>= λ found. Ok (declared found 1)) ≡ Ok (Some (record { code = 1; tag = 0x0b; children = false; specifications = [] }))
first_of_two = unfold on_samples in refl

wide_code : abbreviations (hex (codes "ff ff ff ff ff ff ff ff ff 02 0b 00 00 00")) 0 ≡ Err too_wide
wide_code = unfold on_samples in refl

the_units : units inlined_info ≡ record { offset = 0; end = 0x5b; version = 5; kind = compile; offset_size = 4; debug_abbrev_offset = 0; first_entry = 0x0c } ∷ record { offset = 0x5b; end = 0x6e; version = 5; kind = partial; offset_size = 4; debug_abbrev_offset = 0; first_entry = 0x67 } ∷ []
the_units = unfold on_samples in refl

a_skeleton : units (hex (codes "14 00 00 00 05 00 04 08 09 00 00 00 00 01 02 03 04 05 06 07") ++ hex (codes "00 00 00 00")) ≡ record { offset = 0; end = 0x18; version = 5; kind = skeleton; offset_size = 4; debug_abbrev_offset = 9; first_entry = 0x14 } ∷ []
a_skeleton = unfold on_samples in refl

padding_is_no_unit : length (units (hex (codes "00 00 00 00") ++ inlined_info ++ hex (codes "00 00 00 00"))) ≡ 2
padding_is_no_unit = unfold on_samples in refl

unit_that_holds_0 : option_map (λ unit. unit.offset) (holding (units inlined_info) 0) ≡ Some 0
unit_that_holds_0 = unfold on_samples in refl

unit_that_holds_0x5a : option_map (λ unit. unit.offset) (holding (units inlined_info) 0x5a) ≡ Some 0
unit_that_holds_0x5a = unfold on_samples in refl

unit_that_holds_0x5b : option_map (λ unit. unit.offset) (holding (units inlined_info) 0x5b) ≡ Some 0x5b
unit_that_holds_0x5b = unfold on_samples in refl

unit_that_holds_0x6d : option_map (λ unit. unit.offset) (holding (units inlined_info) 0x6d) ≡ Some 0x5b
unit_that_holds_0x6d = unfold on_samples in refl

unit_that_holds_0x6e : option_map (λ unit. unit.offset) (holding (units inlined_info) 0x6e) ≡ None
unit_that_holds_0x6e = unfold on_samples in refl

inlined_call : entry_in inlined 0 0x36 ≡ Some (Ok (Some (record { offset = 0x36; tag = 0x1d; children = true; attributes = pair 0x31 (values.section_ref 0x68) ∷ pair 0x11 (values.address 0x401002) ∷ pair 0x12 (values.unsigned 6) ∷ pair 0x58 (values.unsigned 0) ∷ pair 0x59 (values.unsigned 20) ∷ pair 0x57 (values.unsigned 7) ∷ [] }), 0x47))
inlined_call = unfold on_samples in refl

null_entry : entry_in inlined 0 0x57 ≡ Some (Ok (None, 0x58))
null_entry = unfold on_samples in refl

in_the_header : entry_in inlined 0 0x0b ≡ Some (Err ends_early)
in_the_header = unfold on_samples in refl

in_the_next_unit : entry_in inlined 0 0x5b ≡ Some (Err ends_early)
in_the_next_unit = unfold on_samples in refl

root_of_the_partial_unit : entry_in inlined 1 0x67 ≡ Some (Ok (Some (record { offset = 0x67; tag = 0x3c; children = true; attributes = [] }), 0x68))
root_of_the_partial_unit = unfold on_samples in refl

in_a_skipped_unit : entry_in mixed_versions 0 0x0a ≡ Some (Err ends_early)
in_a_skipped_unit = unfold on_samples in refl

undeclared_entry : entry_in (with_info (poke inlined_info 0x23 (0x63 ∷ []))) 0 0x23 ≡ Some (Err undeclared)
undeclared_entry = unfold on_samples in refl

first_pair_decides : attribute constants.DW_AT_name (with_attributes (pair 3 (values.unsigned 1) ∷ pair 3 (values.inline (codes "x")) ∷ [])) ≡ None
first_pair_decides = unfold on_samples in refl

first_of_two_names : attribute constants.DW_AT_name (with_attributes (pair 3 (values.inline (codes "x")) ∷ pair 3 (values.inline (codes "y")) ∷ [])) ≡ Some (values.inline (codes "x"))
first_of_two_names = unfold on_samples in refl

no_such_attribute : attribute constants.DW_AT_name (with_attributes (pair 0x11 (values.address 1) ∷ [])) ≡ None
no_such_attribute = unfold on_samples in refl

not_a_used_attribute : attribute 0x0b (with_attributes (pair 0x0b (values.unsigned 1) ∷ [])) ≡ None
not_a_used_attribute = unfold on_samples in refl

negative_line : number_of constants.DW_AT_call_line (with_attributes (pair 0x59 (values.signed (negsuc 0)) ∷ [])) ≡ None
negative_line = unfold on_samples in refl

signed_line : number_of constants.DW_AT_call_line (with_attributes (pair 0x59 (values.signed (pos 9)) ∷ [])) ≡ Some 9
signed_line = unfold on_samples in refl
