-- What an entry says of its ranges (DWARF 5, section 2.17).
use Rattle.std.specs.Prelude.{◌≡◌, false, Some, None}
use Rattle.dw_model.specs.declared.dwarf.TheConstants.{DW_AT_high_pc, DW_AT_low_pc, DW_AT_ranges}
use Rattle.dw_model.specs.Entry.{Entry, attribute}
use Rattle.dw_forms.specs.Ranged.{names_ranges}
use Rattle.dw_forms.specs.Value.{value_shown}
use Rattle.dw_units.specs.declared.named_ranges.NamedRanges.{NamedRanges}
use Rattle.dw_units.specs.declared.named_ranges.NamedRanges.TheVariants.{List, Bounds, Nothing}

-- The list that it names; or, where it names none, both of its bounds; or neither.
abbrev pub IsNamed : NamedRanges → Entry → Type 0
IsNamed (List list) entry = attribute DW_AT_ranges entry ≡ Some (value_shown list)
IsNamed (Bounds low high) entry =
    (attribute DW_AT_ranges entry ≡ None)
    × (attribute DW_AT_low_pc entry ≡ Some (value_shown low))
    × (attribute DW_AT_high_pc entry ≡ Some (value_shown high))
IsNamed Nothing entry = names_ranges entry ≡ false
