-- What a unit's first entry says of it (DWARF 5, sections 3.1 and 7.5).
use Rattle.std.specs.Prelude.{ℕ, Bool, true, false, ◌||◌, ◌&&◌, not, take, drop, Option, Result, Err, option_and_then}
use Rattle.std.specs.Prelude.{is_none, nat_lt, nat_le, if◌then◌else◌}
use Rattle.std.specs.Result.{result_ok, result_err}
use Rattle.dw_model.specs.Results.{◌>>=◌, refuse_if}
use Rattle.dw_model.specs.Reading.{Place, start}
use Rattle.dw_model.specs.Abbrev.{abbreviations}
use Rattle.dw_model.specs.Entry.{Entry, entry_at}
use Rattle.dw_model.specs.Text.{Bases, bases_in}
use Rattle.dw_model.specs.Section.{Sections}
use Rattle.dw_model.specs.Unit.{Kind, compile, partial, skeleton, skipped, is_skipped, DwarfUnit, Test, cut_from}
use Rattle.dw_model.specs.Faults as faults
use Rattle.dw_model.specs.Faults.{Fault, Refusal}

-- the place at an offset of a unit, from which nothing past the unit's end is read
abbrev pub place_in : Sections → DwarfUnit → ℕ → Place
place_in sections unit offset = record { at = offset; left = drop offset (take unit.end sections.info) }

-- The entry at an offset of .debug_info that lies between the unit's first entry and its end, and
-- the place just past it.
unfoldable pub entry : Sections → DwarfUnit → ℕ → Result (Option Entry × Place) Fault
entry sections unit offset =
    if nat_lt offset unit.first_entry || nat_le unit.end offset then Err faults.ends_early else (do
      declarations ← abbreviations sections.abbrevs unit.debug_abbrev_offset
      entry_at unit.offset_size declarations (place_in sections unit offset))

-- A unit's first entry, where it can be read; a null entry or the unit's end there isn't one.
unfoldable pub root : Sections → DwarfUnit → Option Entry
root sections unit = option_and_then (λ found. found.0) (result_ok (entry sections unit unit.first_entry))

-- where the unit's entries begin in the sections that units share
abbrev pub bases : Sections → DwarfUnit → Bases
bases sections unit = bases_in unit.offset_size (root sections unit)

-- the kinds of units that answer addresses (own)
abbrev pub answers : Kind → Bool
answers compile = true
answers partial = false
answers skeleton = true
answers skipped = false

-- a unit that isn't skipped has to have a first entry, whatever its tag is
abbrev pub has_root : Sections → Test
has_root sections unit =
    refuse_if (not (is_skipped unit.kind) && is_none (root sections unit)) (faults.root unit.offset)

-- the first condition that a unit fails, unit by unit: those on its header, and then that on its
-- first entry
abbrev pub unit_refusal : Sections → Option Refusal
unit_refusal sections = result_err (cut_from (has_root sections) (start sections.info))
