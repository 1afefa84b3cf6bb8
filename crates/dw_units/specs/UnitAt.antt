-- The unit at an index, and its declarations.
use Rattle.std.specs.Prelude.{◌≡◌, ◌≤◌, ℕ, true, false, List, length, take, Ok, slice_index_or}
use Rattle.dw_model.specs.Abbrev.{Declaration, abbreviations}
use Rattle.dw_model.specs.Section.{Sections}
use Rattle.dw_model.specs.Unit.{DwarfUnit, skipped, is_skipped, units}

-- what is after the last unit: a unit without bytes, which is skipped
abbrev pub absent : DwarfUnit
absent = record {
  offset = 0;
  end = 0;
  version = 0;
  kind = skipped;
  offset_size = 0;
  debug_abbrev_offset =
      0;
  first_entry = 0;
}

abbrev pub unit_at : Sections → ℕ → DwarfUnit
unit_at sections index = slice_index_or (units sections.info) index absent

-- a unit that is skipped has no entry
abbrev pub HasNoEntry : DwarfUnit → Type 0
HasNoEntry unit = (is_skipped unit.kind ≡ true) × (unit.first_entry ≡ unit.end)

-- a unit that isn't has its entries by these declarations, the first of them in the section
abbrev pub HasEntriesBy : Sections → DwarfUnit → List Declaration → Type 0
HasEntriesBy sections unit declarations =
    (abbreviations sections.abbrevs unit.debug_abbrev_offset ≡ Ok declarations)
    × (unit.first_entry ≤ length (take unit.end sections.info))
    × (is_skipped unit.kind ≡ false)
