-- Which condition a file fails first.
use Rattle.std.proofs.Common.{◌≡◌, ℕ, List, Option, Some, None, arith}
use Rattle.std.specs.Prelude.{MatchOption, option_map}
use Rattle.dw_model.specs.Faults.{Refusal}
use Rattle.dw_model.specs.Section.{Sections, sections, elf_refusal}
use Rattle.dw_model.specs.Root.{unit_refusal}
use Rattle.dw_model.specs.Refusal.{ranges_refusal, refusal}
use Rattle.dw_model.specs.Answer.{unit_of}
use Rattle.dw_model.specs.Text.{Tables}
use Rattle.dw_units.specs.UnitAt.{unit_at}
use Rattle.dw_ranges.specs.Claims.{OwnersState}
use Rattle.dw_symbols.specs.Owners.{FindsUnits, first_unit}

pub by-ranges : (file : List ℕ) (s : Sections) (told : Option Refusal) → s ≡ sections file → elf_refusal file ≡ None → unit_refusal s ≡ None → ranges_refusal s ≡ told → refusal file ≡ told
unfolding refusal
by-ranges file s told same elf units ranges = grind arith

pub told-by-ranges : (file : List ℕ) (s : Sections) (told : Option Refusal) → s ≡ sections file → elf_refusal file ≡ None → unit_refusal s ≡ None → MatchOption told (Unit {0}) (λ fault. ranges_refusal s ≡ Some fault) → MatchOption told (Unit {0}) (λ fault. refusal file ≡ Some fault)
told-by-ranges file s told same elf units ranges = grind (arith, by-ranges)

-- ---- the unit of an address

pub found-unit : (file seen : List ℕ) (tables : Tables) (cover : OwnersState) → file ≡ seen → tables ≡ (sections file).tables → FindsUnits (sections file) cover
    → (found : Option ℕ) (a : ℕ) → found ≡ first_unit tables cover a → option_map (unit_at (sections seen)) found ≡ unit_of (sections seen) a
found-unit file seen tables cover view same finds found a is = grind arith
