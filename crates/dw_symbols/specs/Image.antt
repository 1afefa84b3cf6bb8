-- What a file that is open is seen as.
use Rattle.std.specs.Prelude.{◌≡◌, ◌≤◌, ◌<◌, ℕ, List, IfSome, length}
use Rattle.dw_model.specs.Section.{Sections, sections}
use Rattle.dw_model.specs.Unit as model
use Rattle.dw_ranges.specs.Claims.{OwnersState}
use Rattle.dw_symbols.specs.Owners.{FindsUnits, first_unit, most_kept}
use Rattle.dw_symbols.specs.declared.image.Image.TheInside.{Inside}

abbrev pub file_of : Inside → List ℕ
file_of image = image.file.now

-- what is found for an address is the place of a unit
abbrev pub FindsPlaces : Sections → OwnersState → Type 0
FindsPlaces sections cover =
    (a : ℕ) → IfSome (first_unit sections.tables cover a) (λ i. i < length (model.units sections.info))

-- The units and the lines are those of the file, the first unit that has each address is found, and
-- few ranges and lists are kept.
pub record IsOpen (image : Inside) : Type 0 where
  pub units : image.units.value ≡ sections image.file.now
  pub line : image.line.now ≡ (sections image.file.now).line
  pub finds : FindsUnits (sections image.file.now) image.cover
  pub within : FindsPlaces (sections image.file.now) image.cover
  pub few : image.cover.size ≤ most_kept (sections image.file.now)
