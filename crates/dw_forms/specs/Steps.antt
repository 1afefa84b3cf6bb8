-- Where values are in the entries of a declaration, in units of the 32-bit format.
use Rattle.std.specs.Prelude.{◌≡◌, ◌≤◌, ◌==◌, ◌++◌, ◌∷◌, [], ℕ, List, Option, Some, None, Result, MatchOption}
use Rattle.std.specs.Prelude.{find, length, ok_or, take, true}
use Rattle.dw_model.specs.declared.dwarf.TheConstants.{OFFSET_SIZE_32}
use Rattle.dw_model.specs.Results.{◌>>=◌}
use Rattle.dw_model.specs.Faults.{Fault, ends_early}
use Rattle.dw_model.specs.Reading as reading
use Rattle.dw_model.specs.Reading.{bytes_at}
use Rattle.dw_model.specs.Form.{Value, value_at}
use Rattle.dw_model.specs.Abbrev.{Specification}
use Rattle.dw_forms.specs.Named.{first_named}
use Rattle.dw_forms.specs.Names.{is_used}
use Rattle.dw_forms.specs.Size.{values_size}
use Rattle.dw_forms.specs.Spec.{spec_shown}
use Rattle.dw_forms.specs.declared.steps.Step.{Step}
use Rattle.dw_forms.specs.declared.places.Place.{Place}

-- the value of a step: as many bytes are passed, and then it is read
abbrev pub step_value : Step → reading.Place → Result (Value × reading.Place) Fault
step_value step p =
    ok_or (bytes_at step.before p) ends_early >>= λ passed.
    value_at OFFSET_SIZE_32 step.spec.form step.spec.implicit passed.1

-- Each step is one of the values for which specifications ask; those between them, and those after
-- the last, take as many bytes in every entry.
abbrev pub AreSteps : List Step → (rest : ℕ) → List Specification → Type 0
AreSteps [] rest specifications = values_size OFFSET_SIZE_32 specifications ≡ Some rest
AreSteps (step ∷ steps) rest specifications =
    (before after : List Specification) × (specifications ≡ before ++ spec_shown step.spec ∷ after)
    × (values_size OFFSET_SIZE_32 before ≡ Some step.before) × AreSteps steps rest after

-- The first attribute of a name is there: after as many steps, and as many bytes more.
abbrev pub IsPlaced : List Step → (name : ℕ) → Place → List Specification → Type 0
IsPlaced steps name place specifications =
    (front back : List Specification) × (specifications ≡ front ++ spec_shown place.spec ∷ back)
    × (place.spec.name ≡ name) × (first_named name front ≡ None)
    × (place.count ≤ length steps) × AreSteps (take place.count steps) place.offset front

-- the place of a name among some
abbrev pub find_place : ℕ → List Place → Option Place
find_place name places = find (λ place. place.spec.name == name) places

-- Of each name that is used the first attribute has its place, where there is one.
abbrev pub ArePlaces : List Step → List Place → List Specification → Type 0
ArePlaces steps places specifications =
    (name : ℕ) → is_used name ≡ true → MatchOption (find_place name places)
    (first_named name specifications ≡ None) (λ place. IsPlaced steps name place specifications)
