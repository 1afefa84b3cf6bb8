-- Values that are passed over in one step.
use Rattle.std.proofs.Common.{◌≡◌, ◌∙◌, ℕ, List, Option, Some, Result, Ok, Err, ap, sym, arith}
use Rattle.std.specs.Prelude.{ok_or}
use Rattle.dw_model.specs.Faults.{Fault, ends_early}
use Rattle.dw_model.specs.Reading.{Place, bytes_at}
use Rattle.dw_model.specs.Abbrev.{Specification}
use Rattle.dw_model.specs.Entry.{attributes_at}
use Rattle.dw_model.specs.Answers.{Tells, ReadsOn}
use Rattle.dw_model.proofs.StepLemmas.{ok_is}
use Rattle.dw_forms.specs.declared.fault.FormFault.{FormFault}
use Rattle.dw_forms.specs.Fault.{form_fault, Passes}
use Rattle.dw_forms.specs.Needed.{AreAlike}
use Rattle.dw_forms.specs.Size.{place_behind, Skips}

found-at : {A : Type 0} (read : Result (A × Place) Fault) (q : Place) → place_behind read ≡ Ok (tt, q) → (found : A) × (read ≡ Ok (found, q))
found-at (Ok found) q e = (found.0, ap (λ (x : Unit {0} × Place). Ok (found.0, x.1)) (ok_is (tt, found.1) (tt, q) e))
found-at (Err fault) q e = absurd cc

faults-at : {A : Type 0} (read : Result (A × Place) Fault) (fault : Fault) → place_behind read ≡ Err fault → read ≡ Err fault
faults-at read fault e = grind arith

pub passed : {A : Type 0} (n : ℕ) (read : Place → Result (A × Place) Fault) (p q : Place) (bytes : List ℕ) → Skips n read → bytes_at n p ≡ Some (bytes, q) → (found : A) × (read p ≡ Ok (found, q))
passed n read p q bytes h e = found-at (read p) q (h p ∙ ap (λ (taken : Option (List ℕ × Place)). place_behind (ok_or taken ends_early)) e)

-- ---- the same by steps

tells-at : {A : Type 0} (read : Result (A × Place) Fault) (by : Result (Unit {0} × Place) Fault) (told : Option Fault) → place_behind read ≡ by → Tells told by → Tells told read
tells-at read by told same fault = grind (arith, faults-at)

pub passes : {A : Type 0} (read : Result (A × Place) Fault) (by : Result (Unit {0} × Place) Fault) (result : Result (Unit {0}) FormFault) (q : Place) → place_behind read ≡ by → ReadsOn (λ done. done) form_fault result by q → Passes result read q
passes read by result q same e = grind (arith, found-at, tells-at)

pub passed-alike : (size : ℕ) (needed all : List Specification) (p q : Place) (result : Result (Unit {0}) FormFault) → AreAlike needed all → Passes result (attributes_at size needed p) q → Passes result (attributes_at size all p) q
passed-alike size needed all p q (Ok done) alike passed =
    found-at (attributes_at size all p) q (sym (alike.behind size p) ∙ ap place_behind passed.1)
passed-alike size needed all p q (Err fault) alike told =
    tells-at (attributes_at size all p) (place_behind (attributes_at size needed p)) (form_fault fault) (sym (alike.behind size p)) (tells-behind (attributes_at size needed p) (form_fault fault) told)
  where
    tells-behind : {A : Type 0} (read : Result (A × Place) Fault) (own : Option Fault) → Tells own read → Tells own (place_behind read)
    tells-behind read own told = grind arith
