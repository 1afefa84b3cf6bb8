-- What attributes are seen as.
use Rattle.std.specs.Prelude.{◌≤◌, List, length, Result}
use Rattle.dw_model.specs.Reading.{Place}
use Rattle.dw_model.specs.Faults.{Fault}
use Rattle.dw_model.specs.Entry.{Attribute, attributes_at, classes}
use Rattle.dw_bytes.specs.Width.{size_of}
use Rattle.dw_units.specs.View.{attributes_in, IsRead}
use Rattle.dw_units.specs.Counted.{AreCounted}
use Rattle.dw_units.specs.declared.attributes.Attributes.TheInside.{Inside}

abbrev pub read_of : Inside → Result (List Attribute × Place) Fault
read_of attributes = attributes_at (size_of attributes.width) attributes.specs attributes.values

abbrev pub all_in : Inside → List Attribute
all_in attributes = attributes_in (read_of attributes)

-- All values can be read, and those that count are kept: at most as many as there are names for
-- which some values count.
pub record AreKept (attributes : Inside) : Type 0 where
  pub readable : IsRead (read_of attributes)
  pub counted : AreCounted (all_in attributes) attributes.counted.items
  pub few : length attributes.counted.items ≤ length classes
