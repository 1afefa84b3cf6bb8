-- What an error says of the bytes.
use Rattle.std.specs.Prelude.{◌≡◌, ℕ, Option, Some, None, Result, Ok, Err, IsOk, MatchOption}
use Rattle.dw_model.specs.Faults as model
use Rattle.dw_model.specs.Reading.{Place}
use Rattle.dw_model.specs.Answers.{Tells}
use Rattle.dw_forms.specs.declared.fault.FormFault.{FormFault}
use Rattle.dw_forms.specs.declared.fault.FormFault.TheVariants.{End, Form, Wide, Memory, Code}

-- the fault that an error reports: out of memory is none
abbrev pub form_fault : FormFault → Option model.Fault
form_fault End = Some model.ends_early
form_fault Form = Some model.unknown_form
form_fault Wide = Some model.too_wide
form_fault Memory = None
form_fault Code = Some model.undeclared

-- the number of each reason
abbrev pub fault_number : FormFault → ℕ
fault_number End = 1
fault_number Form = 2
fault_number Wide = 3
fault_number Memory = 4
fault_number Code = 5

-- Out of memory hides no fault: it is told only of what can be read.
abbrev pub HidesNoFault : {A : Type 0} → FormFault → Result A model.Fault → Type 0
HidesNoFault fault given = MatchOption (form_fault fault) (IsOk given) (λ told. Unit {0})

-- Bytes were passed over: the definition reads them. That takes no memory.
abbrev pub Passes : {A : Type 0} → Result (Unit {0}) FormFault → Result (A × Place) model.Fault → Place → Type 0
Passes {A} (Ok done) given new = (found : A) × (given ≡ Ok (found, new))
Passes (Err fault) given new = Tells (form_fault fault) given
