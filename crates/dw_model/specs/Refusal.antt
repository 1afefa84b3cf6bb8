-- Why a file is refused.
use Rattle.std.specs.Prelude.{ℕ, ◌&&◌, List, [], Option, Result, Ok, option_map, find, is_err}
use Rattle.std.specs.Option.{option_or, option_map_or}
use Rattle.dw_model.specs.Section.{Sections, sections, elf_refusal}
use Rattle.dw_model.specs.Unit.{DwarfUnit, units}
use Rattle.dw_model.specs.Root.{root, bases, answers, unit_refusal}
use Rattle.dw_model.specs.Ranges.{Range, ranges_of}
use Rattle.dw_model.specs.Faults.{Refusal, root_ranges, Bad}

-- the ranges of a unit's first entry
abbrev pub unit_ranges : Sections → DwarfUnit → Result (List Range) Bad
unit_ranges sections unit =
    option_map_or (ranges_of sections.tables (bases sections unit) (root sections unit)) (root sections unit) (Ok [])

-- the first unit that answers addresses and whose ranges are bad
abbrev pub ranges_refusal : Sections → Option Refusal
ranges_refusal sections =
    option_map (λ unit. root_ranges unit.offset)
    (find (λ unit. answers unit.kind && is_err (unit_ranges sections unit)) (units sections.info))

-- The first condition that a file fails, and none where it is accepted: those of an ELF file, then
-- those of its units, and then that the ranges of each unit that answers can be read.
unfoldable pub refusal : List ℕ → Option Refusal
refusal file =
    option_or (elf_refusal file) (option_or (unit_refusal (sections file)) (ranges_refusal (sections file)))

-- The same for a listing of units, which reads no ranges.
abbrev pub listing_refusal : List ℕ → Option Refusal
listing_refusal file = option_or (elf_refusal file) (unit_refusal (sections file))
