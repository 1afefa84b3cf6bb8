-- What is told of the entries of a unit.
use Rattle.std.specs.Prelude.{◌≡◌, ℕ, Option, None, Result, Ok}
use Rattle.dw_model.specs.Reading.{Place}
use Rattle.dw_model.specs.Entry.{Entry}
use Rattle.dw_model.specs.Faults.{Fault}

-- a null entry was found, and the place just past it
abbrev pub IsNull : Result (Option Entry × Place) Fault → Type 0
IsNull found = (past : Place) × (found ≡ Ok (None, past))

-- the number is the offset just past the null entry
abbrev pub IsPastNull : ℕ → Result (Option Entry × Place) Fault → Type 0
IsPastNull n found = (past : Place) × (found ≡ Ok (None, past)) × (n ≡ past.at)
