-- Whether entries may have ranges, as their declaration says (DWARF 5, section 2.17).
use Rattle.std.specs.Prelude.{◌≡◌, ℕ, Bool, false, List, Ok, is_some, ◌||◌, ◌&&◌}
use Rattle.dw_model.specs.declared.dwarf.TheConstants.{DW_AT_high_pc, DW_AT_low_pc, DW_AT_ranges}
use Rattle.dw_model.specs.Reading.{Place}
use Rattle.dw_model.specs.Abbrev.{Specification}
use Rattle.dw_model.specs.Entry.{Entry, attribute, attributes_at}
use Rattle.dw_forms.specs.Named.{first_named}

-- DW_AT_ranges is declared, or both of DW_AT_low_pc and DW_AT_high_pc are
abbrev pub may_have_ranges : List Specification → Bool
may_have_ranges specifications =
    is_some (first_named DW_AT_ranges specifications)
    || (is_some (first_named DW_AT_low_pc specifications) && is_some (first_named DW_AT_high_pc specifications))

-- an entry has the attributes that name its ranges
abbrev pub names_ranges : Entry → Bool
names_ranges entry =
    is_some (attribute DW_AT_ranges entry)
    || (is_some (attribute DW_AT_low_pc entry) && is_some (attribute DW_AT_high_pc entry))

-- no entry with these attributes names ranges, wherever it is read
abbrev pub NamesNone : List Specification → Type 0
NamesNone specifications =
    (size : ℕ) (p q : Place) (entry : Entry) → attributes_at size specifications p ≡ Ok (entry.attributes, q)
    → names_ranges entry ≡ false
