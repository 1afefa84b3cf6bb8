-- Entries as they are found where it doesn't matter why there is none.
use Rattle.std.specs.Prelude.{◌≡◌, List, [], Option, Result, Ok, Err, option_and_then}
use Rattle.std.specs.Result.{result_ok}
use Rattle.dw_model.specs.Reading.{Place}
use Rattle.dw_model.specs.Faults.{Fault}
use Rattle.dw_model.specs.Entry.{Attribute, Entry}

-- the entry that is there; none for a null entry, and where none can be read
abbrev pub found_in : Result (Option Entry × Place) Fault → Option Entry
found_in given = option_and_then (λ (found : Option Entry × Place). found.0) (result_ok given)

-- the attributes that were read; none where they can't be
abbrev pub attributes_in : Result (List Attribute × Place) Fault → List Attribute
attributes_in (Ok found) = found.0
attributes_in (Err fault) = []

-- the attributes can be read
abbrev pub IsRead : Result (List Attribute × Place) Fault → Type 0
IsRead given = (found : List Attribute × Place) × (given ≡ Ok found)
