-- What a unit means.
use Rattle.std.specs.Prelude.{◌≡◌, ◌≤◌, ◌++◌, List, Ok, true, false, length, take, Option, Some, None, option_map, IsOk}
use Rattle.std.specs.Prelude.{MatchOption}
use Rattle.dw_model.specs.Results.{◌>>=◌}
use Rattle.dw_model.specs.Reading.{Place, start}
use Rattle.dw_model.specs.Unit.{DwarfUnit, cut_from, is_skipped, piece_at, untested}
use Rattle.dw_model.specs.Section.{Sections}
use Rattle.dw_model.specs.Abbrev.{abbreviations}
use Rattle.dw_model.specs.Root as model
use Rattle.dw_bytes.specs.Width.{size_of}
use Rattle.dw_elf.specs.declared.fault.OpenFault.{OpenFault}
use Rattle.dw_elf.specs.OpenFault.{refusal_of}
use Rattle.dw_forms.specs.Tables.{bases_shown}
use Rattle.dw_units.specs.declared.unit.Unit.{Unit}
use Rattle.dw_units.specs.Header.{kind_shown}
use Rattle.dw_units.specs.Entry.{entry_shown, IsFound}
use Rattle.dw_forms.specs.declared.run.Start.{Start}
use Rattle.dw_forms.specs.Store.{Read, HasTable}

abbrev pub unit_shown : Unit → DwarfUnit
unit_shown unit = record {
  offset = unit.offset;
  end = unit.end;
  version = unit.version;
  kind = kind_shown unit.kind;
  offset_size = size_of unit.width;
  debug_abbrev_offset = unit.debug_abbrev_offset;
  first_entry = unit.first_entry;
}

-- a unit that isn't skipped has the table of its declarations at this start, and its first entry in
-- the section
abbrev pub HasEntries : Sections → Read → DwarfUnit → Option Start → Type 0
HasEntries sections read unit None = (is_skipped unit.kind ≡ true) × (unit.first_entry ≡ unit.end)
HasEntries sections read unit (Some start) =
    HasTable read unit.debug_abbrev_offset start × (unit.first_entry ≤ length (take unit.end sections.info))
    × (is_skipped unit.kind ≡ false)

-- a unit that isn't skipped has its first entry, with the offset just past it
abbrev pub HasFirst : Sections → Unit → Type 0
HasFirst sections unit =
    is_skipped (kind_shown unit.kind) ≡ false
    → IsFound unit.root (model.entry sections (unit_shown unit) unit.first_entry)

-- The unit's first entry and its bases are those of the definitions, and its declarations were read
-- where it has entries.
pub record IsOpened (sections : Sections) (read : Read) (unit : Unit) : Type 0 where
  pub root : option_map entry_shown unit.root ≡ model.root sections (unit_shown unit)
  pub first : HasFirst sections unit
  pub bases : bases_shown unit.bases ≡ model.bases sections (unit_shown unit)
  pub table : HasEntries sections read (unit_shown unit) unit.table

-- Out of memory hides no table: it is told only of a unit that isn't skipped and whose declarations
-- can be read.
abbrev pub HidesNoTable : OpenFault → Sections → DwarfUnit → Type 0
HidesNoTable fault sections unit =
    MatchOption (refusal_of fault)
    ((is_skipped unit.kind ≡ false) × IsOk (abbreviations sections.abbrevs unit.debug_abbrev_offset))
    (λ told. Prim.Unit {0})

-- these units were cut up to a place, each with its first entry
abbrev pub IsCutTo : Sections → List DwarfUnit → Place → Type 0
IsCutTo sections before p =
    (cut_from (model.has_root sections) p >>= λ others. Ok (before ++ others))
    ≡ cut_from (model.has_root sections) (start sections.info)

-- a unit is there
abbrev pub IsUnitAt : Place → Type 0
IsUnitAt p = (header : DwarfUnit) × (q : Place) × (piece_at untested p ≡ Ok (Some header, q))

-- Out of memory is told only at a unit, whose header can be read: nothing is allocated for that.
abbrev pub TellsAtUnit : OpenFault → Sections → Type 0
TellsAtUnit fault sections =
    MatchOption (refusal_of fault) ((before : List DwarfUnit) × (p : Place) × IsCutTo sections before p × IsUnitAt p)
    (λ told. Prim.Unit {0})
