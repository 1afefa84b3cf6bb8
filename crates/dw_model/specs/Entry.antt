-- Entries and their attributes (DWARF 5, section 7.5).
use Rattle.std.specs.Prelude.{ℕ, pos, Bool, true, false, ◌||◌, List, [], ◌∷◌, Option, Some, None, Result, Ok, ok_or}
use Rattle.std.specs.Prelude.{option_and_then, find, nat_eq, ◌==◌, if◌then◌else◌}
use Rattle.std.specs.Map.{lookup}
use Rattle.dw_model.specs.declared.dwarf.TheConstants as constants
use Rattle.dw_model.specs.Options as options
use Rattle.dw_model.specs.Options.{only_if}
use Rattle.dw_model.specs.Results.{◌>>=◌}
use Rattle.dw_model.specs.Reading.{Place}
use Rattle.dw_model.specs.Leb.{uleb_at}
use Rattle.dw_model.specs.Form.{Value, value_at}
use Rattle.dw_model.specs.Form as values
use Rattle.dw_model.specs.Abbrev.{Specification, Declaration, declared}
use Rattle.dw_model.specs.Faults.{Fault, undeclared}

pub record Attribute : Type 0 where
  pub name : ℕ
  pub value : Value

-- An entry: its offset in .debug_info, its tag, whether a list of children follows it, and its
-- attributes in order.
pub record Entry : Type 0 where
  pub offset : ℕ
  pub tag : ℕ
  pub children : Bool
  pub attributes : List Attribute

-- the values that a declaration asks for, one after the other
unfoldable pub attributes_at : ℕ → List Specification → Place → Result (List Attribute × Place) Fault
attributes_at size [] p = Ok ([], p)
attributes_at size (specification ∷ specifications) p = do
  value ← value_at size specification.form specification.constant p
  others ← attributes_at size specifications value.1
  Ok (record { name = specification.name; value = value.0 } ∷ others.0, others.1)

-- The entry at a place, and the place just past it. The code 0 is a null entry, which ends a list
-- of children.
unfoldable pub entry_at : ℕ → List Declaration → Place → Result (Option Entry × Place) Fault
entry_at size declarations p = do
  code ← uleb_at p
  if code.0 == 0 then Ok (None, code.1) else (do
    declaration ← ok_or (declared declarations code.0) undeclared
    attributes ← attributes_at size declaration.specifications code.1
    Ok (
      Some (record {
        offset = p.at;
        tag = declaration.tag;
        children = declaration.children;
        attributes = attributes.0;
      }),
      attributes.1,
    ))

-- ---- classes of values (section 7.5.5)

-- what a value of the class loclist, rnglist, lineptr and the like is: an offset in another section
abbrev pub as_section_offset : Value → Option ℕ
as_section_offset (values.section_offset n) = Some n
as_section_offset _ = None

abbrev pub is_section_offset : Value → Bool
is_section_offset (values.section_offset n) = true
is_section_offset _ = false

abbrev pub is_text : Value → Bool
is_text (values.inline bytes) = true
is_text (values.str n) = true
is_text (values.line_str n) = true
is_text (values.str_index n) = true
is_text _ = false

abbrev pub is_address : Value → Bool
is_address (values.address n) = true
is_address (values.address_index n) = true
is_address _ = false

abbrev pub is_constant : Value → Bool
is_constant (values.unsigned n) = true
is_constant (values.signed z) = true
is_constant _ = false

abbrev pub is_range_list : Value → Bool
is_range_list (values.section_offset n) = true
is_range_list (values.range_index n) = true
is_range_list _ = false

abbrev pub is_reference : Value → Bool
is_reference (values.unit_ref n) = true
is_reference (values.section_ref n) = true
is_reference _ = false

-- the classes that count for each attribute that is used (section 7.5.4, table 7.5)
abbrev pub classes : List (ℕ × (Value → Bool))
classes =
    (constants.DW_AT_name, is_text)
    ∷ (constants.DW_AT_comp_dir, is_text)
    ∷ (constants.DW_AT_linkage_name, is_text)
    ∷ (constants.DW_AT_stmt_list, is_section_offset)
    ∷ (constants.DW_AT_low_pc, is_address)
    ∷ (constants.DW_AT_high_pc, λ v. is_address v || is_constant v)
    ∷ (constants.DW_AT_ranges, is_range_list)
    ∷ (constants.DW_AT_abstract_origin, is_reference)
    ∷ (constants.DW_AT_specification, is_reference)
    ∷ (constants.DW_AT_call_column, is_constant)
    ∷ (constants.DW_AT_call_file, is_constant)
    ∷ (constants.DW_AT_call_line, is_constant)
    ∷ (constants.DW_AT_str_offsets_base, is_section_offset)
    ∷ (constants.DW_AT_addr_base, is_section_offset)
    ∷ (constants.DW_AT_rnglists_base, is_section_offset)
    ∷ []

-- The first attribute of a name, where its value is of a class that counts; else the attribute is
-- absent, whatever is after it.
unfoldable pub attribute : ℕ → Entry → Option Value
attribute name entry =
    options.◌>>=◌ (find (λ found. found.name == name) entry.attributes) λ found.
    options.◌>>=◌ (lookup (nat_eq name) classes) λ counts.
    options.◌>>=◌ (only_if (counts found.value)) λ _. Some found.value

-- the number of a constant that isn't negative
abbrev pub as_count : Value → Option ℕ
as_count (values.unsigned n) = Some n
as_count (values.signed (pos n)) = Some n
as_count _ = None

-- the value of an attribute as a number
abbrev pub number_of : ℕ → Entry → Option ℕ
number_of name entry = option_and_then as_count (attribute name entry)
