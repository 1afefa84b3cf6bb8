-- What a walk over units is seen as.
use Rattle.std.specs.Prelude.{ℕ, List}
use Rattle.dw_model.specs.Section.{sections}
use Rattle.dw_symbols.specs.Owners.{FindsUnits}
use Rattle.dw_symbols.specs.Image.{FindsPlaces}
use Rattle.dw_ranges.specs.Window.{IsWindow}
use Rattle.dw_symbols.specs.declared.unit_walk.UnitWalk.TheInside.{Inside}

abbrev pub file_in : Inside → List ℕ
file_in walk = walk.image.now

-- The file's units are found by the cover, and the window is of those that are held.
pub record IsWalk (walk : Inside) : Type 0 where
  pub finds : FindsUnits (sections walk.image.now) walk.cover.now
  pub within : FindsPlaces (sections walk.image.now) walk.cover.now
  pub window : IsWindow (sections walk.image.now).tables walk.cover.now.held walk.window
