-- What a walk over the entries of a unit is seen as.
use Rattle.std.specs.Prelude.{◌≡◌, ◌==◌, ℕ, List, Option, Some, None, Ok, false, option_map}
use Rattle.dw_model.specs.Reading.{Place}
use Rattle.dw_model.specs.Leb.{uleb_at}
use Rattle.dw_model.specs.Abbrev.{Declaration, declared}
use Rattle.dw_model.specs.Entry.{Entry, attributes_at}
use Rattle.dw_bytes.specs.Width.{size_of}
use Rattle.dw_forms.specs.Table.{declarations_of}
use Rattle.dw_units.specs.Entries.{Walk}
use Rattle.dw_units.specs.Layouts.{AreOf, IsMeant}
use Rattle.dw_units.specs.View.{attributes_in, IsRead}
use Rattle.dw_units.specs.declared.entries.Head.{Head}
use Rattle.dw_units.specs.declared.entries.Last.{Last}
use Rattle.dw_units.specs.declared.entries.Entries.TheInside.{Inside}
use Rattle.dw_units.specs.declared.layouts.Meaning.{Meaning}

-- a function as its declaration says
abbrev pub function_by : ℕ → Last → Declaration → Entry
function_by size last declaration = record {
  offset = last.offset;
  tag = declaration.tag;
  children = declaration.children;
  attributes = attributes_in (attributes_at size declaration.specifications last.values);
}

-- the last function
abbrev pub last_in : List Declaration → ℕ → Option Last → Option Entry
last_in declarations size None = None
last_in declarations size (Some last) = option_map (function_by size last) (declared declarations last.code)

-- its values can be read
abbrev pub IsReadable : List Declaration → ℕ → Option Last → Type 0
IsReadable declarations size known =
    (last : Last) (declaration : Declaration) → known ≡ Some last → declared declarations last.code ≡ Some declaration
    → IsRead (attributes_at size declaration.specifications last.values)

-- The head of the entry at a place: its offset, and its code, after which the values begin.
abbrev pub IsHead : Head → (p values : Place) → Type 0
IsHead head p values =
    (head.offset ≡ p.at) × (uleb_at p ≡ Ok (head.code, values)) × ((head.code == 0) ≡ false)

-- The head of the entry at a place, and what its code means.
abbrev pub IsMet : List Declaration → (offset_size : ℕ) → Head → Meaning → (p values : Place) → Type 0
IsMet declarations offset_size head meant p values =
    IsHead head p values × IsMeant offset_size meant (declared declarations head.code)

abbrev pub walk_in : Inside → Walk
walk_in entries = record {
  declarations = declarations_of entries.abbrevs;
  offset_size = size_of entries.layouts.width;
  place = entries.cursor;
  last = last_in (declarations_of entries.abbrevs) (size_of entries.layouts.width) entries.last;
}

-- The layouts are those of its declarations, and the values of the last function can be read.
pub record IsWalk (entries : Inside) : Type 0 where
  pub layouts : AreOf (declarations_of entries.abbrevs) entries.layouts
  pub readable : IsReadable (declarations_of entries.abbrevs) (size_of entries.layouts.width) entries.last
