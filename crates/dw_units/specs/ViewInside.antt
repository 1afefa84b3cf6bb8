-- What an entry is seen as whose values are read when they are asked for.
use Rattle.std.specs.Prelude.{List, Result}
use Rattle.dw_model.specs.Reading.{Place}
use Rattle.dw_model.specs.Faults.{Fault}
use Rattle.dw_model.specs.Entry as model
use Rattle.dw_model.specs.Entry.{Attribute, attributes_at}
use Rattle.dw_bytes.specs.Width.{size_of}
use Rattle.dw_forms.specs.Shape.{specs_of}
use Rattle.dw_units.specs.View.{attributes_in, IsRead}
use Rattle.dw_units.specs.declared.view.EntryView.TheInside.{Inside}

abbrev pub read_of : Inside → Result (List Attribute × Place) Fault
read_of view = attributes_at (size_of view.width) (specs_of view.shape) view.values

abbrev pub entry_in : Inside → model.Entry
entry_in view = record {
  offset = view.offset;
  tag = view.tag;
  children = view.children;
  attributes = attributes_in (read_of view);
}

-- its values can be read
abbrev pub IsReadable : Inside → Type 0
IsReadable view = IsRead (read_of view)
