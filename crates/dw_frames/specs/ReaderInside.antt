-- What a reader of functions is seen as.
use Rattle.std.specs.Prelude.{◌≡◌, map}
use Rattle.dw_index.specs.Range.{range_shown}
use Rattle.dw_units.specs.OpenUnit.{sections_of}
use Rattle.dw_frames.specs.Reading.{Reading}
use Rattle.dw_frames.specs.UnitIn.{unit_in}
use Rattle.dw_frames.specs.declared.reader.Reader.TheInside.{Inside}

abbrev pub reading_of : Inside → Reading
reading_of reader = record {
  of = unit_in reader.unit;
  ranges = map range_shown reader.ranges.items;
  begins = reader.begins.items;
  owned = reader.owned;
}

-- the indexes are of lists in the file of the unit
abbrev pub IsReader : Inside → Type 0
IsReader reader = reader.indexes ≡ (sections_of reader.unit).tables
