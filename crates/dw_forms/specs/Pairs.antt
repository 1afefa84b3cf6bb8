-- The pairs of a declaration, where they are in .debug_abbrev.
use Rattle.std.specs.Prelude.{◌≡◌, ℕ, List, [], ◌∷◌, length, Option, Some, None, Result, Ok, Err}
use Rattle.dw_model.specs.Reading.{Place, items}
use Rattle.dw_model.specs.Faults.{Fault}
use Rattle.dw_model.specs.Leb.{uleb_at}
use Rattle.dw_model.specs.Abbrev.{Specification, next_specification}
use Rattle.dw_model.specs.Answers.{Tells}
use Rattle.dw_forms.specs.declared.declaration.Spec.{Spec}
use Rattle.dw_forms.specs.declared.fault.FormFault.{FormFault}
use Rattle.dw_forms.specs.Fault.{form_fault}
use Rattle.dw_forms.specs.Spec.{spec_shown}

-- the pairs that were read; none where they can't be
abbrev pub specs_in_read : Result (List Specification × Place) Fault → List Specification
specs_in_read (Ok found) = found.0
specs_in_read (Err fault) = []

-- the pairs that begin at a place
abbrev pub specs_at : Place → List Specification
specs_at p = specs_in_read (items (λ q. q.left) next_specification p)

-- So many pairs can be read from a place on.
abbrev pub AreAt : Place → ℕ → Type 0
AreAt p count = (found : List Specification × Place) × (items (λ q. q.left) next_specification p ≡ Ok found)
    × (length found.0 ≡ count)

-- The first pair was taken away, where there is one.
abbrev pub TakesFirst : Option Spec → List Specification → List Specification → Type 0
TakesFirst None old new = (old ≡ []) × (new ≡ old)
TakesFirst (Some spec) old new = old ≡ spec_shown spec ∷ new

-- Two numbers of one byte each were read, one after the other; or nothing was.
abbrev pub ReadsShortPair : Option (ℕ × ℕ) → Place → Place → Type 0
ReadsShortPair None old new = new ≡ old
ReadsShortPair (Some pair) old new =
    (between : Place) × (uleb_at old ≡ Ok (pair.0, between)) × (uleb_at between ≡ Ok (pair.1, new))

-- The pairs were counted, and the definition reads as many; or its fault is told.
abbrev pub ReadsCount : Result ℕ FormFault → Result (List Specification × Place) Fault → Place → Type 0
ReadsCount (Ok count) given new =
    (found : List Specification) × (given ≡ Ok (found, new)) × (length found ≡ count)
ReadsCount (Err fault) given new = Tells (form_fault fault) given
